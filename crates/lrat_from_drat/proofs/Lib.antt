pub mod Followed
pub mod Becoming
pub mod Taken
pub mod Started
pub mod Leading
pub mod Converting
pub mod Whole
