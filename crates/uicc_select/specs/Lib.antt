pub mod Find
pub mod Select
pub mod Status
pub mod Target
