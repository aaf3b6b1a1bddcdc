pub mod Fault
pub mod Tag
pub mod Length
pub mod Parts
pub mod Tlv
pub mod Head
pub mod Walk
pub mod Objects
