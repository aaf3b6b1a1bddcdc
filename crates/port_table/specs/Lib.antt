pub mod PortMode
pub mod PortOf
pub mod Ports
pub mod Target
