pub mod Means
pub mod Numbers
pub mod Soundness
pub mod Openings
