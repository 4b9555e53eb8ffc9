pub mod Known
pub mod Facts
pub mod Sight
pub mod Numbers
pub mod Examples
