mod Appended
pub mod BlankBehind
mod MemoryCalls
pub mod Outcome
pub mod Patches
mod Pieces
pub mod Reading
pub mod RowLemmas
pub mod SwitchByte
pub mod Throughout
pub mod Touched
pub mod Unique
