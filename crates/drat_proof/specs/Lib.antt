pub mod Drat
pub mod Naming
pub mod Conversion
pub mod TwoRoles
pub mod Converting
