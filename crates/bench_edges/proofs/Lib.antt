pub mod KnownBytes
pub mod Settings
pub mod Grammar
pub mod SolveWords
pub mod Front
pub mod ShortWords
pub mod GenerateWords
pub mod Texts
