pub mod Plays
pub mod Choices
pub mod Sides
pub mod Laws
