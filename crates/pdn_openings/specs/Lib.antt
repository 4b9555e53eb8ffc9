pub mod Beginning
pub mod Playing
pub mod Openings
pub mod Faults
pub mod Laws
