-- One slot of a table, by its number. Assumes nothing.
use Rattle.std.specs.Prelude.{ℕ, not, List, [], ◌∷◌, length, is_some, Some, None, Option, nat_le, slice_index_or}
use Rattle.model.specs.Refusals.{Check, refuse}
use Rattle.model.specs.Moves.{Surcharge, Move}
use Rattle.model.specs.Calls.{retiming, in_slot}

-- what is checked of a slot that should hold a move, and of one that should be vacant
abbrev pub use_checks : List (Option Move) → ℕ → List Check
use_checks slots n = refuse 4 (nat_le (length slots) n) ∷ refuse 6 (not (is_some (slice_index_or slots n None))) ∷ []

abbrev pub vacancy_checks : List (Option Move) → ℕ → List Check
vacancy_checks slots n = refuse 4 (nat_le (length slots) n) ∷ refuse 5 (is_some (slice_index_or slots n None)) ∷ []

-- the move of a slot with another base and other surcharges
abbrev pub retimed_in : ℕ → List Surcharge → Option Move → Option Move
retimed_in base xs = in_slot (λ m. Some (retiming base xs m)) None
