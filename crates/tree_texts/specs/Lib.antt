pub mod TreeTexts
pub mod Json
pub mod Shown
