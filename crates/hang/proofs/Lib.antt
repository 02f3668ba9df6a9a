-- the steps of an attempt: Trying
pub mod Trying
