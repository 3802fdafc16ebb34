pub mod Walk
pub mod Clauses
pub mod Counts
pub mod Holders
pub mod Ends
pub mod Cuts
pub mod TextVerdict
pub mod Memory
