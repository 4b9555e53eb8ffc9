pub mod Outcomes
pub mod Refusals
pub mod Choices
pub mod Written
pub mod Laws
