pub mod Calls
pub mod Evening
pub mod Playing
