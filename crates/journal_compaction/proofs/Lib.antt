pub mod Lists
mod ExampleLemmas
pub mod Folds
pub mod Alike
pub mod Expanding
pub mod Sizes
pub mod Found
pub mod Steps
pub mod Compacted
pub mod Kids
pub mod Making
