pub mod CutLaws
pub mod CutPackets
pub mod LayoutLaws
pub mod PartLaws
pub mod Utf8
