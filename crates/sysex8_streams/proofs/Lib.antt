pub mod CountLaws
pub mod HistoryLaws
pub mod KeyLaws
pub mod OpenedLaws
pub mod ReadLaws
pub mod SlotLaws
pub mod TableLaws
pub mod ViewLaws
mod WordLaws
