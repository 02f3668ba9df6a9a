-- lemmas: what read answers is what a file gives, Given; a run of performs grows, Runs
pub mod Given
pub mod Runs
