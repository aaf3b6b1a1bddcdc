pub mod CommandLemmas
pub mod MeaningLemmas
