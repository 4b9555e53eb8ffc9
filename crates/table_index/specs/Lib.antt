pub mod Order
pub mod Counting
pub mod Laws
pub mod Examples
