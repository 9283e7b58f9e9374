pub mod Counting
pub mod Encoded
pub mod ExclusiveWords
pub mod Fitting
pub mod Marked
pub mod OnePacket
