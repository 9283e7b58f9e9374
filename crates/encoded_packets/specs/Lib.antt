pub mod Encoded
pub mod Parts
pub mod DirectMessages
pub mod Pairs
