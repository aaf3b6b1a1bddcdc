pub mod Deciding
pub mod Finding
pub mod Keeping
pub mod Keys
pub mod Meaning
pub mod Passing
