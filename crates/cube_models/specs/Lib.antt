pub mod Least
pub mod Way
pub mod Finder
pub mod Denied
pub mod Sum
