pub mod SightLemmas
pub mod TreeLemmas
