pub mod Demo
pub mod Ends
pub mod Images
pub mod Words
