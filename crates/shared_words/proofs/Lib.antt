pub mod LackingBytes
pub mod Numerals
pub mod Exactness
pub mod FrontBytes
