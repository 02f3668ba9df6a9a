pub mod Holding
pub mod Slots
pub mod Rigs
pub mod Openings
