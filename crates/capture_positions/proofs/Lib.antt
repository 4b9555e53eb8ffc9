pub mod Below
pub mod JumpLemmas
pub mod KingLemmas
pub mod WalkLemmas
pub mod CountLemmas
pub mod CaptureLemmas
pub mod LoopLemmas
