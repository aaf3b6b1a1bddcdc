pub mod AccessRule
pub mod Condition
pub mod KeySet
pub mod May
pub mod Met
pub mod Reading
pub mod Record
pub mod Rules
