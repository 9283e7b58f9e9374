pub mod ClosingLaws
pub mod InputLaws
pub mod ReplyLaws
pub mod TakingLaws
