-- lemmas about charts that functions make: Tabs; about what the calls of a move hang: Blocks, of a round: Rounds, of
-- the rule: Whole; about how many rounds there are: Counts; about how great times can be: Bounds; about calls that
-- only want of room can refuse: Rooms, those of a move: Unrefused, of the rule: Refusing; about the steps up to a step:
-- Prefixes
pub mod Tabs
pub mod Blocks
pub mod Rounds
pub mod Counts
pub mod Whole
pub mod Bounds
pub mod Rooms
pub mod Unrefused
pub mod Refusing
pub mod Prefixes
