pub mod FileLemmas
pub mod FoundLemmas
pub mod SuitsLemmas
pub mod SelectionLemmas
pub mod LocalLemmas
