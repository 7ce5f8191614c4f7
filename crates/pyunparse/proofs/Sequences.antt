-- What is written one after another.
pub mod AloneLemmas
pub mod FoldLemmas
pub mod MemberLemmas
