pub mod Copies
pub mod Collecting
pub mod Once
