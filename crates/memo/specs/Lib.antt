pub mod Operations
pub mod Results
pub mod Once
