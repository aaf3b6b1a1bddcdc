pub mod Reading
pub mod Refusal
pub mod Prefixes
pub mod Walking
pub mod ObjectLemmas
pub mod Heads
