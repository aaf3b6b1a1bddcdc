pub mod Heads
pub mod Ends
pub mod Handing
pub mod Joined
pub mod OnePart
pub mod MoreComes
pub mod EachHead
pub mod EachPart
