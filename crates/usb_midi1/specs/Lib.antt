pub mod Codes
pub mod Events
pub mod Held
pub mod Laws
pub mod Lend
pub mod Packed
pub mod Packing
pub mod Split
