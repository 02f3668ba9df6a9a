-- one step of a walk: Paths
pub mod Paths
