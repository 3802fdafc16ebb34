pub mod Lines
pub mod DratForm
pub mod ReadBack
pub mod DratLines
pub mod DratNumbers
