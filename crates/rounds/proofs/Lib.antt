-- lemmas about the calls of a round: OfRounds; about what is left on the pegs: Leaving; about rounds one after another:
-- Going, after round 0: Beginning
pub mod OfRounds
pub mod Leaving
pub mod Going
pub mod Beginning
