-- lemmas about tests over lists: Tests, Testing; about scenes and their places: Ranks, Sizes; about charts: Charting, Lateness, Strides; about what a call answers: Refusing; about shelves: Soundness; about calls on a rig: Laws
pub mod Tests
pub mod Testing
pub mod Ranks
pub mod Sizes
pub mod Charting
pub mod Lateness
pub mod Strides
pub mod Refusing
pub mod Soundness
pub mod Laws
