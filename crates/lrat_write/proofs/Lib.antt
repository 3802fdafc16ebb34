pub mod Lines
pub mod Suffix
