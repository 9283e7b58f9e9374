pub mod Buffers
pub mod Cut
pub mod Exclusives
pub mod Fed
pub mod Laws
pub mod Lend
pub mod Table
