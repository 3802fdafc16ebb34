pub mod Followed
pub mod Printable
pub mod FreshPrintable
