pub mod Inline
pub mod Atoms
pub mod Greedy
pub mod Closing
pub mod Additions
pub mod Units
pub mod Step
