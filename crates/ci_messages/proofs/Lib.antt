pub mod DataLaws
pub mod PlaceLaws
pub mod FieldLaws
pub mod WrittenLaws
pub mod ReadLaws
pub mod KindLaws
