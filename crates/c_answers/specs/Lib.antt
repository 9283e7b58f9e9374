pub mod Blocks
pub mod Fronts
pub mod Lines
pub mod Numbers
pub mod Outcomes
pub mod Refusals
pub mod Within
pub mod Whole
