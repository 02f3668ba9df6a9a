pub mod Mixing
pub mod Sameness
