pub mod DecimalText
pub mod Numbers
pub mod Pairs
pub mod Pieces
