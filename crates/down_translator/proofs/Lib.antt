pub mod ExclusiveLaws
pub mod HeldLaws
pub mod LaneLaws
pub mod DirectLaws
pub mod LoweredLaws
pub mod PieceLaws
pub mod RecordingLaws
pub mod RecordingRooms
pub mod RunningLaws
pub mod ShortenedLaws
pub mod Spelling
pub mod StyledLaws
pub mod Turned
pub mod UnsetLaws
mod Midi1Laws
mod UncarriedLaws
