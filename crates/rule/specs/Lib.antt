pub mod Steps
pub mod Running
pub mod Rule
pub mod Bridge
