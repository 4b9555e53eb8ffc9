pub mod Answers
pub mod Below
pub mod Games
pub mod PathDisk
pub mod Sources
pub mod Statuses
