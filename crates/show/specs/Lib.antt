pub mod Agreeing
pub mod Shows
