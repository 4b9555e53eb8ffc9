pub mod Steps
pub mod PlayLemmas
pub mod LawLemmas
pub mod Finds
