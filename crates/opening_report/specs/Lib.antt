pub mod Lines
pub mod Report
pub mod Refusals
pub mod Conversions
pub mod Findings
pub mod Laws
