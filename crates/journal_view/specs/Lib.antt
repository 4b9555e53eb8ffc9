pub mod Trees
pub mod Pages
pub mod Games
pub mod Shown
pub mod Runs
