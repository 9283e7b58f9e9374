pub mod BlockLaws
pub mod FrontLaws
pub mod ItemLaws
pub mod WithinLaws
