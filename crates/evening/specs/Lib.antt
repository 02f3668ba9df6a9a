pub mod Cases
pub mod Evening
