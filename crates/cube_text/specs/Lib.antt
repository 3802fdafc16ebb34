pub mod CubeText
pub mod CubeReader
