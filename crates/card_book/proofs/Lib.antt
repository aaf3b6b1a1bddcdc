pub mod HistoryLemmas
pub mod MarkLemmas
pub mod StepLemmas
