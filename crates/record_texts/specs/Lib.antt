pub mod Records
pub mod Json
pub mod Lists
