pub mod Lessons
pub mod Laws
pub mod Learnt
pub mod Teaching
pub mod Conversions
