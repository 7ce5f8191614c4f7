mod FieldLemmas
mod TryLemmas
