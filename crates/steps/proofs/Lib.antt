-- lemmas about steps one after another: Steps; about the calls of a move: OfMoves
pub mod Steps
pub mod OfMoves
