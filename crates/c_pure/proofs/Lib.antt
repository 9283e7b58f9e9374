pub mod CutLaws
pub mod WordLaws
