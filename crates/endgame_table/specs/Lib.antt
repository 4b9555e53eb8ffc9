pub mod Numbers
pub mod Entries
pub mod Bytes
pub mod Laws
pub mod Rows
pub mod Marking
pub mod Origins
pub mod Rounds
