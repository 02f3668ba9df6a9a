pub mod Repeating
pub mod Loops
