pub mod OutcomeLemmas
pub mod CauseLemmas
pub mod CallLemmas
pub mod ChoiceLemmas
