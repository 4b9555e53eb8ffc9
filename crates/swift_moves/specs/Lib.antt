pub mod Ways
pub mod Forces
pub mod Moved
