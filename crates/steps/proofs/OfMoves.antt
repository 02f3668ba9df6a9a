-- The calls of a move, as the code makes them. Assumes nothing.
use Rattle.std.proofs.Common.{◌≡◌, List, [], ◌∷◌, ◌++◌, map, sym}
use Rattle.std.proofs.lemmas.List.{append_assoc}
use Rattle.model.specs.Shelves.{Call, sum}
use Rattle.rule.specs.Steps.{tested, surcharged}
use Rattle.moves.specs.declared.pair.Pair.{Pair}
use Rattle.moves.specs.declared.entry.Surcharge.{Surcharge}
use Rattle.moves.specs.Views.{surcharge_of}

abbrev pub no_pair : Pair
no_pair = record { device = 0; setting = 0 }

-- the calls of a surcharge, and those of the surcharges after it
pub surcharge_parts : (x : Surcharge) (xs : List Surcharge) → surcharged (map surcharge_of (x ∷ xs)) ≡ surcharged (surcharge_of x ∷ []) ++ surcharged (map surcharge_of xs)
surcharge_parts x xs = let calls : List Call = tested (surcharge_of x).extra (surcharge_of x).tests in sym (append_assoc calls (sum 2 2 3 ∷ []) (surcharged (map surcharge_of xs)))
