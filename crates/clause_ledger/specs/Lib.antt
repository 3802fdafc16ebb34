pub mod Book
pub mod History
pub mod Kept
pub mod Spans
pub mod Steps
pub mod Told
