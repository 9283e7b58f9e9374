pub mod BufferLaws
pub mod CutLaws
pub mod DataLaws
pub mod ExclusiveLaws
pub mod PlaceLaws
pub mod TableLaws
