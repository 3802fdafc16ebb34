pub mod Fresh
pub mod Uses
pub mod Renaming
