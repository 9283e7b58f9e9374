pub mod EncodedLaws
pub mod PartLaws
pub mod DirectLaws
pub mod LowLaws
mod RowLaws
