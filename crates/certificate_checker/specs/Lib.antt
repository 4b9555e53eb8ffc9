pub mod Ranks
pub mod Faults
pub mod Refusals
pub mod Laws
pub mod Sight
pub mod Answers
pub mod Told
pub mod OneParts
