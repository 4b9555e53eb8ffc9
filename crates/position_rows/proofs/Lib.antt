pub mod ApartLemmas
pub mod HangLemmas
pub mod IndexedLemmas
pub mod LookLemmas
pub mod RowLemmas
pub mod WalkLemmas
pub mod WindowLemmas
