pub mod Kids
pub mod Held
pub mod Told
