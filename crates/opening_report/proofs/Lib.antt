pub mod LineLemmas
pub mod ReportLemmas
pub mod RefusalLemmas
pub mod FindingLemmas
pub mod BenchLemmas
