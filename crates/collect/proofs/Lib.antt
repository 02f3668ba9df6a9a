-- the steps of copying: Copying; what a collector keeps: Lasting
pub mod Copying
pub mod Lasting
