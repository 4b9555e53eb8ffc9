pub mod NearSquareRules
pub mod OwnSquares
