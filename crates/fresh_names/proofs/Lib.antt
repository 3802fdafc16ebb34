pub mod Renamed
pub mod Given
pub mod Literals
pub mod Counted
pub mod Followed
pub mod Refuted
pub mod InTurn
