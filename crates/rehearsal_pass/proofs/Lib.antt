pub mod InputLaws
pub mod StepLaws
