pub mod Ample
pub mod Conversions
pub mod Ends
pub mod FirstPass
pub mod Journals
pub mod Examples
