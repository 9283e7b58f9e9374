pub mod ClipLaws
pub mod HeaderLaws
