pub mod Jumps
pub mod Walk
pub mod Laws
pub mod Examples
