pub mod Equals
pub mod Hashes
pub mod Keys
