pub mod Clauses
pub mod Quiet
pub mod Addition
pub mod Run
pub mod Hits
pub mod Soundness
pub mod FromLrat
