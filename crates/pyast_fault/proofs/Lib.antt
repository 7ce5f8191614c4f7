mod TellLemmas
mod RowLemmas
