pub mod Judged
pub mod Began
pub mod Accepted
