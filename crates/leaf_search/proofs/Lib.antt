pub mod LineLemmas
pub mod FailLemmas
pub mod MemoLemmas
pub mod WinLemmas
pub mod AnswerLemmas
pub mod SightLemmas
