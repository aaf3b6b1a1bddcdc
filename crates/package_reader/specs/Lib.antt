pub mod ReaderState
pub mod Fields
pub mod NextHead
pub mod Part
pub mod Turn
