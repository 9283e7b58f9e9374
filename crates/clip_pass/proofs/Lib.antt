pub mod DoneLaws
pub mod EndLaws
pub mod HeaderLaws
pub mod StepLaws
