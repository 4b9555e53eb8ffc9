pub mod Lines
pub mod Plays
pub mod Refusals
pub mod Steps
