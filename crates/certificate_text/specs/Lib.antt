pub mod Lines
pub mod Places
pub mod Text
pub mod Refusals
pub mod Steps
pub mod Headings
pub mod Laws
