pub mod Header
pub mod History
pub mod Laws
pub mod Roles
pub mod Stages
pub mod Worked
