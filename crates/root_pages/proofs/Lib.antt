pub mod CellLemmas
pub mod StepLemmas
pub mod TwigLemmas
