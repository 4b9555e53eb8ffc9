pub mod Items
pub mod Games
pub mod Warnings
pub mod Told
