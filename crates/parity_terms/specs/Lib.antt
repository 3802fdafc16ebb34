pub mod Owned
pub mod Steps
pub mod Order
pub mod Clauses
pub mod Rows
pub mod Ends
pub mod Numbered
pub mod Limit
