-- lemmas about the walk along a way: Finding, Striding, OfWalks; about what the rule leaves: Ruled; about what is answered: Outcomes
pub mod Finding
pub mod Striding
pub mod OfWalks
pub mod Ruled
pub mod Outcomes
