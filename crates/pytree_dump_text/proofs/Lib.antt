pub mod Callers
mod Examples
mod LeafLemmas
mod LineLemmas
mod ShortLemmas
mod SlotLemmas
