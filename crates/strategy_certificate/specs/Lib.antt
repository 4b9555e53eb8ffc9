pub mod Tables
pub mod Parts
pub mod Places
pub mod Certificates
pub mod Laws
pub mod Examples
pub mod Claims
pub mod ShortRanks
