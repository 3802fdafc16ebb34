pub mod Verdict
pub mod Rules
pub mod Run
pub mod Checks
