pub mod Faults
pub mod Ends
