pub mod Stamped
pub mod Consistent
pub mod CubesJudged
pub mod Fronts
pub mod Uncut
