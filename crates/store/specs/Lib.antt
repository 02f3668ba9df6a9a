pub mod Stores
pub mod Fillings
pub mod Once
