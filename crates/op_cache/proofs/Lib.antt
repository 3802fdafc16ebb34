pub mod Entries
pub mod Bounds
pub mod Front
pub mod Contained
pub mod Values
pub mod Turns
