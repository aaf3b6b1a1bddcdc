pub mod Access
pub mod Arena
pub mod Change
pub mod Files
