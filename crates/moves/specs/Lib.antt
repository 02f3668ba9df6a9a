pub mod Faults
pub mod Views
