pub mod Roots
pub mod LineTexts
pub mod Json
