pub mod Inside
pub mod Weights
pub mod Unbegun
pub mod Keeping
