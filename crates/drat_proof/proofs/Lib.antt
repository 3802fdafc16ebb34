pub mod Roles
pub mod Added
pub mod Named
pub mod Converting
pub mod Taking
