pub mod LineLemmas
pub mod VariationLemmas
