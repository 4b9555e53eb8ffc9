pub mod Growth
pub mod Seen
pub mod Told
pub mod Turns
pub mod Views
