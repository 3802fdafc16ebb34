pub mod Reclaimed
