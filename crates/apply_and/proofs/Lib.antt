pub mod Cached
pub mod ConjunctionClauses
pub mod Closed
pub mod Conjunctions
pub mod Made
pub mod Named
pub mod Calls
pub mod Opened
