pub mod NearSquares
pub mod Conditions
