-- The sum of extras as a fold: Adding
pub mod Adding
