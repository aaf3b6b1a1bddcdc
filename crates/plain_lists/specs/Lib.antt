pub mod EachTwo
pub mod FirstOf
