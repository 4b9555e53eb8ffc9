pub mod CleanFens
pub mod FirstPlaces
pub mod FoundTags
pub mod Paths
