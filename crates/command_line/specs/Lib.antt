pub mod Parser
pub mod Tables
pub mod Command
pub mod Reading
pub mod Explain
