pub mod DirectLaws
pub mod ControlLaws
pub mod FrontLaws
pub mod RecordingLaws
pub mod SpellLaws
pub mod StepLaws
pub mod WordLaws
