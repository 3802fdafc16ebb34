pub mod Cache
pub mod Additions
pub mod Implication
pub mod Calls
