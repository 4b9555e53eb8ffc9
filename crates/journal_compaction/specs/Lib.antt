pub mod Places
pub mod Compactions
pub mod Examples
pub mod Names
pub mod Laws
pub mod Making
