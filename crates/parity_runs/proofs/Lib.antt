pub mod Began
pub mod Stands
pub mod Told
pub mod Without
pub mod Lent
