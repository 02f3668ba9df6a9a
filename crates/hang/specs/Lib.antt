pub mod Tasks
pub mod Carried
