-- the steps of a sweep: Sweeps
pub mod Sweeps
