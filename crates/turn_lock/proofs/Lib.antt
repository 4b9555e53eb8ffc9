pub mod Growing
pub mod Keeping
pub mod Entering
pub mod Holding
pub mod Passes
pub mod Whole
