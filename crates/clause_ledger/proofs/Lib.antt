pub mod Added
pub mod Cut
pub mod Deleted
pub mod Places
mod Walks
pub mod Written
