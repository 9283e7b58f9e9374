pub mod BackLaws
pub mod CountLaws
pub mod CourseLaws
pub mod GeneratorLaws
pub mod PlayedLaws
