-- The cases of the worked evening. Assumes nothing.
use Rattle.std.proofs.Common.{◌≡◌, ℕ, ◌<◌, List, [], ◌∷◌, ◌++◌, Some, Ok, Err, Result, refl}
use Rattle.std.specs.List.{AllByRecursion}
use Rattle.model.specs.Limits.{peg_count}
use Rattle.model.specs.Charts.{Time}
use Rattle.model.specs.Moves.{Surcharge}
use Rattle.model.specs.Calls.{retimes}
use Rattle.model.specs.Shelves.{does, dial}
use Rattle.diagram.specs.Openings.{diagram_opened}
use Rattle.format.specs.Evening.{evening}
use Rattle.evening.specs.Cases.{Holds}
use Rattle.evening.specs.Evening.{one_more, cases}
use Rattle.evening.proofs.Each.{◌&◌, each_below}
use Rattle.evening.proofs.Evening.{planned, other_way, short_sheet, sheet_of_3, without_0, without_2_3, all_wanted}

-- each slot, retimed
abbrev Retimes : List Surcharge → Result (Unit {0}) ℕ → ℕ → Type 0
Retimes xs said n = retimes evening n 65535 xs ≡ said

long_base : (n : ℕ) → n < 4 → Retimes [] (Ok tt) n
long_base = each_below (Retimes [] (Ok tt)) 4 (refl & refl & refl & refl & tt)

too_long : (n : ℕ) → n < 4 → Retimes (one_more ∷ []) (Err 11) n
too_long = each_below (Retimes (one_more ∷ []) (Err 11)) 4 (refl & refl & refl & refl & tt)

-- each peg, dialled
abbrev Dials : List Time → ℕ → Result (Unit {0}) ℕ → ℕ → Type 0
Dials unread slots said p = does (diagram_opened (2 ∷ 3 ∷ 2 ∷ []) slots) (dial p 0 ((Some 0 ∷ Some 5 ∷ []) ++ unread)) ≡ said

three_slots : (p : ℕ) (unread : List Time) → p < peg_count → Dials unread 3 (Ok tt) p
three_slots p unread = each_below (Dials unread 3 (Ok tt)) 8 (refl & refl & refl & refl & refl & refl & refl & refl & tt) p

two_slots : (p : ℕ) (unread : List Time) → p < peg_count → Dials unread 2 (Err 18) p
two_slots p unread = each_below (Dials unread 2 (Err 18)) 8 (refl & refl & refl & refl & refl & refl & refl & refl & tt) p

pub all_hold : AllByRecursion Holds cases
unfolding lib.Count.ones
all_hold =
    planned & other_way & (refl, refl)
    & short_sheet & sheet_of_3
    & refl & refl & refl & refl
    & refl & without_0
    & refl & refl & without_2_3
    & (refl, tt) & (refl, tt)
    & (refl, refl) & all_wanted
    & long_base & too_long
    & (refl, three_slots) & (refl, two_slots)
    & tt
