pub mod InputLaws
pub mod PackLaws
