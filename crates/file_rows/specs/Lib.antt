pub mod Apart
pub mod Change
pub mod Conditions
pub mod Content
pub mod FileHead
pub mod Find
pub mod Path
pub mod PinRow
