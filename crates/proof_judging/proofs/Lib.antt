pub mod Running
pub mod Verdicts
pub mod Ending
pub mod Covered
pub mod Plain
