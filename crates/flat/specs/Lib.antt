pub mod Rows
pub mod Means
pub mod Openings
pub mod Hanging
pub mod Rowing
