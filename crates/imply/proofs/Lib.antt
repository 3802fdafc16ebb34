pub mod Cached
pub mod ImplicationClauses
pub mod Refuted
pub mod Calls
pub mod Opened
