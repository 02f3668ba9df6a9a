pub mod Bytes
pub mod Files
pub mod Laws
pub mod Evening
pub mod Reading
