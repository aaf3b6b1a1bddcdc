pub mod CommandLemmas
pub mod DistanceLemmas
pub mod FormLemmas
pub mod SameLemmas
pub mod TriesLemmas
