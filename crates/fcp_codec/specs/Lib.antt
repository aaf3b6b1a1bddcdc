pub mod FileForm
pub mod RuleRef
pub mod Values
pub mod Reading
pub mod State
pub mod PinStatus
pub mod Writing
pub mod Creation
