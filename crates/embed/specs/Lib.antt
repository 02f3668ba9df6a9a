pub mod Reads
pub mod Opens
pub mod Plans
pub mod Files
pub mod Told
