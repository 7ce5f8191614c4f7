mod MemberLemmas
pub mod Callers
mod CountLemmas
