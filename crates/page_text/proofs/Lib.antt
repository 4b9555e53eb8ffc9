pub mod NodeLemmas
pub mod PlainLemmas
pub mod TextLemmas
