pub mod CallLemmas
pub mod HandleLemmas
pub mod WholeLemmas
