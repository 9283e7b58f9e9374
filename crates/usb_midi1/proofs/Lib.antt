pub mod EventLaws
pub mod PackedLaws
pub mod SplitLaws
