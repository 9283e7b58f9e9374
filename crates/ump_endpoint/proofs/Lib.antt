pub mod HeardLaws
pub mod HistoryLaws
pub mod StayLaws
