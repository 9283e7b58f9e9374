pub mod ByteLines
pub mod Channels
pub mod ExclusiveLines
pub mod Parts
