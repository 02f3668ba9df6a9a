pub mod Walking
pub mod Plans
