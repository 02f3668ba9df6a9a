pub mod Shorts
pub mod Repeats
