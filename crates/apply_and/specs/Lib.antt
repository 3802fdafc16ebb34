pub mod Conjunction
pub mod Cache
pub mod Additions
pub mod Calls
