pub mod EndedLaws
pub mod JoinLaws
pub mod MessageLaws
pub mod PackedLaws
pub mod ReaderLaws
