pub mod CutLaws
pub mod Next
pub mod SoFarLaws
