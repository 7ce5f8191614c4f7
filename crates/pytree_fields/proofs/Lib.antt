pub mod NodeLemmas
pub mod RowLemmas
pub mod Callers
