-- lemmas about tests that end a function: Tests; about what bytes can be: Pieces; about surcharges and moves: Moves;
-- about whole files: Whole
pub mod Tests
pub mod Pieces
pub mod Moves
pub mod Whole
