mod StatementLemmas
mod MeetingLemmas
mod LevelLemmas
mod AnswerLemmas
mod TryLemmas
pub mod Callers
mod LastLineLemmas
mod CaseLines
