pub mod Faults
pub mod KnownBytes
pub mod Status
pub mod Counted
pub mod MemorySource
pub mod MemorySink
pub mod Reading
pub mod Words
