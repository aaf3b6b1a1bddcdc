pub mod PortLemmas
pub mod PortOfLemmas
pub mod TargetLemmas
