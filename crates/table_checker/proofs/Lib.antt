pub mod FittingLemmas
pub mod ByteLemmas
pub mod RuleLemmas
pub mod RankLemmas
pub mod FaultLemmas
