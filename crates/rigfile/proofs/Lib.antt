-- lemmas about bytes put into a buffer: Written; about the next item of a list: Turns; about moves of the code: Seen;
-- about whole files: Whole; about bytes as pairs: Paired; about devices one after another: Devised; about a move taken part by
-- part: Taken; about a move added: Added; about all of them: AddedAll;
-- about what stands before the moves: FrontSeen; about what writing and reading promise together: Back; about first refusals,
-- scenes and names: First
pub mod Written
pub mod Turns
pub mod Seen
pub mod Whole
pub mod Paired
pub mod Devised
pub mod Taken
pub mod Added
pub mod AddedAll
pub mod FrontSeen
pub mod Back
pub mod First
