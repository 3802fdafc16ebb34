pub mod Answers
pub mod Width
pub mod Steps
pub mod Ends
pub mod Sums
