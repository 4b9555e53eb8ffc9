pub mod GameLemmas
pub mod RootLemmas
pub mod TreeLemmas
pub mod ShownLemmas
pub mod RunLemmas
mod PageLemmas
