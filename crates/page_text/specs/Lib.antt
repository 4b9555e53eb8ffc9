pub mod Markup
pub mod Boards
pub mod Roots
pub mod Nodes
pub mod Plays
pub mod Pages
