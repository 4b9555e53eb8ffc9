pub mod MoveLists
pub mod Refusals
