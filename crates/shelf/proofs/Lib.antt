pub mod Placing
pub mod Products
pub mod Calling
