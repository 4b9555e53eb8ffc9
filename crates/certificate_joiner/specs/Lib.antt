pub mod Shelf
pub mod ShelfRows
pub mod Certified
pub mod Laws
pub mod Growth
pub mod Growing
pub mod Steps
pub mod Strategy
