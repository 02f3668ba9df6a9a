pub mod Writing
pub mod Reading
pub mod Taking
pub mod Adding
pub mod Fronts
pub mod Promises
