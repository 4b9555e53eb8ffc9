pub mod Languages
pub mod CommandWords
pub mod WordLemmas
pub mod Passages
pub mod Readings
