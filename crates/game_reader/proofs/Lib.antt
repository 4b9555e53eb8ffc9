pub mod Playing
pub mod Written
pub mod Notes
pub mod Reading
pub mod Told
pub mod SeenNumbers
