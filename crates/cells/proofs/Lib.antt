-- lemmas about what loops write: Writing, Copying; about loops that read: Reading
pub mod Writing
pub mod Copying
pub mod Reading
