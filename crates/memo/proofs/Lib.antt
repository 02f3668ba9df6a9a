-- what is remembered stays right: Keeps
pub mod Keeps
