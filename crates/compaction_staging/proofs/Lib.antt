pub mod ProgressLemmas
pub mod LoopLemmas
pub mod ShownLemmas
