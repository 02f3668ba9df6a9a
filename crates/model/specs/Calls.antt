-- The calls on a rig: what each answers and leaves. Assumes nothing.
use Rattle.std.specs.Prelude.{◌≡◌, ℕ, ◌+◌, ◌<◌, Bool, true, false, not, ◌&&◌, ◌||◌, leb, List, [], ◌∷◌, ◌++◌, map, length, replicate, is_some, Some, None, Ok, Err, Option, Result, ◌==◌, nat_eq, nat_le, nat_lt, slice_index}
use Rattle.model.specs.Limits.{outside, least_byte, most_byte, most_slots, most_conditions, most_effects, most_surcharges, most_tests, most_tenths}
use Rattle.model.specs.Lists.{total, some, some_two, repeats, count}
use Rattle.model.specs.Scenes.{Shape, Scene, shape_off, scenes}
use Rattle.model.specs.Moves.{Pair, Surcharge, Move, Transition, all_hold, applied, time}
use Rattle.model.specs.Masks.{ill, all_of, wanted, product_of_ones}
use Rattle.model.specs.Refusals.{Check, refuse, answer, passes, left_by}
use Rattle.model.specs.Contents.{Contents, Name, slot, with_slot, with_scene, with_masks}

-- Opening

abbrev pub same_name : Name → Name → Bool
same_name [] [] = true
same_name [] (y ∷ ys) = false
same_name (x ∷ xs) [] = false
same_name (x ∷ xs) (y ∷ ys) = x == y && same_name xs ys

-- device or settings count outside its limits, or a list without one item per device
abbrev pub counts_off : Shape → List Name → Scene → Bool
counts_off ns names s =
    shape_off ns || (not (length names == length ns) || not (length s == length ns))

abbrev pub open_checks : Shape → List Name → Scene → ℕ → List Check
open_checks ns names s slots =
    refuse 1 (counts_off ns names s)
    ∷ refuse 2 (some (some (outside least_byte most_byte)) names)
    ∷ refuse 3 (outside 1 most_slots slots)
    ∷ refuse 8 (some_two leb ns s)
    ∷ refuse 9 (repeats same_name names)
    ∷ []

abbrev pub opens : Shape → List Name → Scene → ℕ → Result (Unit {0}) ℕ
opens ns names s slots = answer (open_checks ns names s slots) tt

-- every slot is vacant, and every setting wanted
abbrev pub opened : Shape → List Name → Scene → ℕ → Contents
opened ns names s slots = record { settings = ns; names = names; scene = s; masks = map all_of ns; slots = replicate slots None }

-- Moves as they are handed in

abbrev pub device_high : Shape → Pair → Bool
device_high ns p = nat_le (length ns) p.device

abbrev pub setting_high : Shape → Pair → Bool
setting_high ns p = nat_lt p.device (length ns) && nat_le (slice_index ns p.device) p.setting

abbrev pub same_device : Pair → Pair → Bool
same_device p q = p.device == q.device

-- the lists of pairs in each of which no device may stand twice
abbrev pub tested : List Surcharge → List (List Pair)
tested = map (λ x. x.tests)

abbrev pub pairs_of : Move → List (List Pair)
pairs_of m = m.conditions ∷ m.effects ∷ tested m.surcharges

abbrev pub pair_checks : Shape → List (List Pair) → List Check
pair_checks ns lists =
    refuse 7 (some (some (device_high ns)) lists)
    ∷ refuse 8 (some (some (setting_high ns)) lists)
    ∷ refuse 9 (some (repeats same_device) lists)
    ∷ []

abbrev pub tests_off : Surcharge → Bool
tests_off x = outside 1 most_tests (length x.tests)

abbrev pub surcharges_off : List Surcharge → Bool
surcharges_off xs = nat_lt most_surcharges (length xs) || some tests_off xs

abbrev pub lengths_off : Move → Bool
lengths_off m = nat_lt most_conditions (length m.conditions) || (outside 1 most_effects (length m.effects) || surcharges_off m.surcharges)

abbrev pub extra : Surcharge → ℕ
extra x = x.extra

-- base 0, extra 0, or base and extras above the limit
abbrev pub times_off : ℕ → List Surcharge → Bool
times_off base xs = base == 0 || (some (λ x. nat_eq x.extra 0) xs || nat_lt most_tenths (base + total extra xs))

abbrev pub move_checks : Shape → Move → List Check
move_checks ns m = pair_checks ns (pairs_of m) ++ (refuse 10 (lengths_off m) ∷ refuse 11 (times_off m.base m.surcharges) ∷ [])

abbrev pub timing_checks : Shape → ℕ → List Surcharge → List Check
timing_checks ns base xs = pair_checks ns (tested xs) ++ (refuse 10 (surcharges_off xs) ∷ refuse 11 (times_off base xs) ∷ [])

-- Slots

abbrev pub no_slot : Contents → ℕ → Check
no_slot c n = refuse 4 (nat_le (length c.slots) n)

abbrev pub in_use : Contents → ℕ → Check
in_use c n = refuse 5 (is_some (slot c n))

abbrev pub vacant : Contents → ℕ → Check
vacant c n = refuse 6 (not (is_some (slot c n)))

abbrev pub adds : Contents → ℕ → Move → Result (Unit {0}) ℕ
adds c n m = answer (no_slot c n ∷ in_use c n ∷ move_checks c.settings m) tt

abbrev pub added : Contents → ℕ → Move → Contents
added c n m = left_by (adds c n m) (with_slot c n (Some m)) c

abbrev pub retimes : Contents → ℕ → ℕ → List Surcharge → Result (Unit {0}) ℕ
retimes c n base xs = answer (no_slot c n ∷ vacant c n ∷ timing_checks c.settings base xs) tt

-- the move with another base and other surcharges
abbrev pub retiming : ℕ → List Surcharge → Move → Move
retiming base xs m = record { conditions = m.conditions; effects = m.effects; base = base; surcharges = xs }

-- in a slot that is in use
abbrev pub in_slot : {T : Type 0} → (Move → T) → T → Option Move → T
in_slot f vacant None = vacant
in_slot f vacant (Some m) = f m

abbrev pub retimed : Contents → ℕ → ℕ → List Surcharge → Contents
retimed c n base xs = left_by (retimes c n base xs) (with_slot c n (in_slot (λ m. Some (retiming base xs m)) None (slot c n))) c

abbrev pub withdraws : Contents → ℕ → Result (Unit {0}) ℕ
withdraws c n = answer (no_slot c n ∷ vacant c n ∷ []) tt

abbrev pub withdrawn : Contents → ℕ → Contents
withdrawn c n = left_by (withdraws c n) (with_slot c n None) c

abbrev pub unmet : Contents → ℕ → Check
unmet c n = refuse 12 (in_slot (λ m. not (all_hold c.scene m.conditions)) false (slot c n))

-- it answers the move's time in the scene before it
abbrev pub performs : Contents → ℕ → Result ℕ ℕ
performs c n = answer (no_slot c n ∷ vacant c n ∷ unmet c n ∷ []) (in_slot (λ m. time m c.scene) 0 (slot c n))

abbrev pub performed : Contents → ℕ → Contents
performed c n = left_by (performs c n) (with_scene c (in_slot (λ m. applied m.effects c.scene) c.scene (slot c n))) c

-- an accepted perform is a transition of planning with state-dependent action costs
abbrev pub Moved : Contents → ℕ → Result ℕ ℕ → Contents → Type 0
Moved c n (Ok t) d = (m : Move) × (slot c n ≡ Some m) × Transition m c.scene t d.scene
Moved c n (Err f) d = Unit {0}

-- Masks

abbrev pub want_checks : Shape → List ℕ → List Check
want_checks ns ms = refuse 1 (not (length ms == length ns)) ∷ refuse 13 (some_two ill ms ns) ∷ []

-- it answers how many scenes are wanted
abbrev pub wants : Contents → List ℕ → Result ℕ ℕ
wants c ms = answer (want_checks c.settings ms) (product_of_ones ms)

abbrev pub wanting : Contents → List ℕ → Contents
wanting c ms = left_by (wants c ms) (with_masks c ms) c

-- and these are the scenes among all
abbrev pub CountsWanted : Contents → List ℕ → Result ℕ ℕ → Type 0
CountsWanted c ms (Ok k) = k ≡ count (wanted ms) (scenes c.settings)
CountsWanted c ms (Err f) = Unit {0}

-- a device's setting and its mask
abbrev pub looks : Contents → ℕ → Result (ℕ × ℕ) ℕ
looks c v = answer (refuse 7 (nat_le (length c.settings) v) ∷ []) (slice_index c.scene v, slice_index c.masks v)

-- Contents that calls can leave

abbrev pub lawful_slot : Shape → Option Move → Bool
lawful_slot ns None = true
lawful_slot ns (Some m) = passes (move_checks ns m)

-- what open takes, masks that want takes, and in each slot nothing or a move that add takes
pub record Lawful (c : Contents) : Type 0 where
  pub opens : passes (open_checks c.settings c.names c.scene (length c.slots)) ≡ true
  pub wants : passes (want_checks c.settings c.masks) ≡ true
  pub moves : (k : ℕ) → k < length c.slots → lawful_slot c.settings (slot c k) ≡ true
