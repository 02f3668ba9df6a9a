pub mod Faults
pub mod Shapes
pub mod Numbers
pub use Rattle.either.specs.Either
