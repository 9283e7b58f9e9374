pub mod InputLaws
pub mod KeptLaws
pub mod TextLaws
