pub mod Conversions
pub mod Looks
