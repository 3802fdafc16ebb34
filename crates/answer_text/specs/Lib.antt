pub mod Model
pub mod Status
