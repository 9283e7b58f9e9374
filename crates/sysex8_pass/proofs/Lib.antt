pub mod InputLaws
pub mod LoopLaws
pub mod PartLaws
