pub mod ComingLemmas
pub mod CommandLemmas
pub mod LaneLemmas
pub mod LocalStepLemmas
pub mod OwnStepLemmas
pub mod QuietStepLemmas
pub mod ReplyLemmas
