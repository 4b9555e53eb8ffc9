pub mod Words
pub mod Texts
pub mod Refusals
pub mod Runs
