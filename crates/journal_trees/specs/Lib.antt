pub mod Sights
pub mod Trees
