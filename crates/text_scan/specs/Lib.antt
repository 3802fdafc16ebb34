pub mod Items
pub mod Lexer
pub mod Scan
pub mod Near
pub mod Decides
pub mod Block
pub mod Capped
