pub mod DratText
pub mod LineText
pub mod Draft
pub mod DratSteps
