-- How long the parts of a file are. Assumes nothing.
use Rattle.std.proofs.Common.{◌≡◌, ℕ, ◌+◌, ◌*◌, ◌≤◌, List, [], ◌∷◌, ◌++◌, length, Some, None, Option, refl, arith, length-append}
use Rattle.std.specs.List.{flat_map, AllByRecursion}
use Rattle.model.specs.Scenes.{Shape}
use Rattle.model.specs.Moves.{Pair, Surcharge, Move}
use Rattle.model.specs.Contents.{Name}
use Rattle.theory.specs.Wellformed.{LawfulSurcharge, LawfulMove, LawfulSlot}
use Rattle.format.specs.Bytes.{pair}
use Rattle.format.specs.Files.{Entry, Listing, surcharge, lists, entry, devices, body, Eight, entries}

pub pairs_long : (ps : List Pair) → length (flat_map pair ps) ≡ 2 * length ps
pairs_long [] = refl
pairs_long (p ∷ ps) = let h = pairs_long ps in omega (arith, h)

pub surcharge_long : (x : Surcharge) → length (surcharge x) ≡ 3 + 2 * length x.tests
surcharge_long x = let h = pairs_long x.tests in omega (arith, h)

pub lists_long : (m : Move) → length (lists m) ≡ 2 * length m.conditions + 2 * length m.effects + length (flat_map surcharge m.surcharges)
lists_long m =
    let a = length-append (flat_map pair m.conditions) (flat_map pair m.effects ++ flat_map surcharge m.surcharges) in
    let b = length-append (flat_map pair m.effects) (flat_map surcharge m.surcharges) in
    let c = pairs_long m.conditions in
    let d = pairs_long m.effects in
    omega (arith, a, b, c, d)

pub entry_long : (e : Entry) → length (entry e) ≡ 6 + 2 * length e.move.conditions + 2 * length e.move.effects + length (flat_map surcharge e.move.surcharges)
entry_long e = let h = lists_long e.move in omega (arith, h)

pub devices_long : (ns : List ℕ) (names : List Name) → length names ≡ length ns → AllByRecursion Eight names → length (devices ns names) ≡ 9 * length ns
devices_long [] names l e = refl
devices_long (n ∷ ns) [] l e = absurd (omega arith)
devices_long (n ∷ ns) (name ∷ names) l e =
    let h = devices_long ns names (omega arith) e.1 in
    let a = length-append name (devices ns names) in
    let b = e.0 in
    omega (arith, h, a, b)

pub body_long : (l : Listing) → length l.names ≡ length l.settings → AllByRecursion Eight l.names → length l.scene ≡ length l.settings → length l.masks ≡ length l.settings → length (body l) ≡ 11 * length l.settings + length (flat_map entry l.moves)
body_long l n e s m =
    let d = devices_long l.settings l.names n e in
    let a = length-append (devices l.settings l.names) (l.scene ++ (l.masks ++ flat_map entry l.moves)) in
    let b = length-append l.scene (l.masks ++ flat_map entry l.moves) in
    let c = length-append l.masks (flat_map entry l.moves) in
    omega (arith, d, a, b, c)

-- Limits

surcharges_few : (ns : Shape) (xs : List Surcharge) → AllByRecursion (LawfulSurcharge ns) xs → length (flat_map surcharge xs) ≤ 9 * length xs
surcharges_few ns [] h = omega arith
surcharges_few ns (x ∷ xs) h =
    let a = length-append (surcharge x) (flat_map surcharge xs) in
    let b = surcharge_long x in
    let c = h.0.few_tests in
    let d = surcharges_few ns xs h.1 in
    omega (arith, a, b, c, d)

entry_few : (ns : Shape) (e : Entry) → LawfulMove ns e.move → length (entry e) ≤ 126
entry_few ns e h =
    let a = entry_long e in
    let b = surcharges_few ns e.move.surcharges h.surcharged in
    omega (arith, a, b, h.few_conditions, h.few_effects, h.few_surcharges)

pub entries_short : (ns : Shape) (n : ℕ) (slots : List (Option Move)) → AllByRecursion (LawfulSlot ns) slots → length (flat_map entry (entries n slots)) ≤ 126 * length slots
entries_short ns n [] h = omega arith
entries_short ns n (None ∷ slots) h = let a = entries_short ns (n + 1) slots h.1 in omega (arith, a)
entries_short ns n (Some m ∷ slots) h =
    let e : Entry = record { number = n; move = m } in
    let a = entries_short ns (n + 1) slots h.1 in
    let b = length-append (entry e) (flat_map entry (entries (n + 1) slots)) in
    let c = entry_few ns e h.0 in
    omega (arith, a, b, c)
