pub mod EntryLemmas
pub mod FieldLemmas
pub mod TagLemmas
pub mod TargetLemmas
pub mod TextLemmas
