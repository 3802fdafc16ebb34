pub mod Ends
pub mod Behind
