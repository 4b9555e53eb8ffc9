pub mod Bytes
pub mod Counts
pub mod Answers
pub mod Examples
