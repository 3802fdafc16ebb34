pub mod Added
pub mod Connected
pub mod Emitting
pub mod Front
pub mod HasRead
pub mod Kept
pub mod Parts
pub mod Unopened
pub mod Written
mod Walks
