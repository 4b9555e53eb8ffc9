pub mod Rows
pub mod Words
pub mod Walks
pub mod Windows
pub mod Looks
pub mod Tables
