-- lemmas about a round of value iteration: Times; about runs with no scene twice: Cycles; about the walk: Greedy;
-- about what tests tell of contents: Told; about the table that moves make: Tabling; about runs of performs:
-- Performing; about the quickest of them: Best; about contents that are alike: Alikes
pub mod Times
pub mod Cycles
pub mod Greedy
pub mod Told
pub mod Tabling
pub mod Performing
pub mod Best
pub mod Keeping
pub mod Opening
pub mod Alikes
pub mod Moving
pub mod Counting
