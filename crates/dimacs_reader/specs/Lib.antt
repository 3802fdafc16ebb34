pub mod Cnf
pub mod Header
pub mod Answers
pub mod Body
