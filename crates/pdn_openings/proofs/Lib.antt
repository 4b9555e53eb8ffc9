pub mod Ends
pub mod Outcome
pub mod Steps
pub mod OneGame
pub mod AllGames
pub mod Determined
pub mod Lawful
