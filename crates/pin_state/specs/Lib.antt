pub mod PinCommand
pub mod PinOutcome
pub mod SamePin
pub mod Tries
