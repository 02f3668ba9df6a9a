pub mod Splits
pub mod Joins
