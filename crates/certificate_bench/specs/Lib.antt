pub mod Wins
