pub mod Shifts
pub mod Counting
