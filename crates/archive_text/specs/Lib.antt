pub mod Lines
pub mod Places
pub mod Fed
pub mod Ahead
