pub mod Board
pub mod Schedule
pub mod Cursor
pub mod Texts
