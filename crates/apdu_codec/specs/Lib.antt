pub mod Answer
pub mod Class
pub mod Command
pub mod Ins
pub mod Sw
