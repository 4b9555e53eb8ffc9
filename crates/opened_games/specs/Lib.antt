pub mod Opened
pub mod Json
pub mod Numbers
