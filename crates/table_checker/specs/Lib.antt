pub mod Fitting
pub mod Kept
pub mod Faults
pub mod Laws
