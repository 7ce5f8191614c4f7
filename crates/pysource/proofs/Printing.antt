-- Reprs, and what can be printed.
pub mod Categories
pub mod ReprsLemmas
pub mod PushReprLemmas
