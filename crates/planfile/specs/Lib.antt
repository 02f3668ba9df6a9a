pub mod Failures
pub mod Inputs
pub mod Telling
pub mod Coming
pub mod Steps
pub mod Outcomes
