pub mod Trimming
pub mod Walking
pub mod Books
pub mod Laws
pub mod Examples
