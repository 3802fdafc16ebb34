pub mod Following
pub mod Lrat
pub mod Writing
pub mod Starting
pub mod Conversion
pub mod Converting
