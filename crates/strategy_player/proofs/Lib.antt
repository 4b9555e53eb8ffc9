pub mod WordLemmas
pub mod RootLemmas
pub mod RunLemmas
