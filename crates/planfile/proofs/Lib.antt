-- lemmas about moves performed one after another: Turns; about an input read whole: Feeding; about the way of a plan that was
-- made: Saying; about the steps from a file to what comes of it: Whole
pub mod Turns
pub mod Feeding
pub mod Saying
pub mod Whole
