pub mod Stays
pub mod Alone
pub mod Replied
pub mod Formulas
pub mod Ended
pub mod Joined
pub mod Whole
pub mod Asked
pub mod Walked
pub mod Parts
pub mod Moves
pub mod Costed
pub mod Totals
pub mod Lent
mod Added
mod Refusing
pub mod Taken
