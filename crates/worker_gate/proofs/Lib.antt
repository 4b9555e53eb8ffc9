pub mod SearchingLemmas
pub mod TogetherLemmas
