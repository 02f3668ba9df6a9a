-- What the tests of open, want and add tell of contents. Assumes nothing.
use Rattle.std.proofs.Common.{◌≡◌, ℕ, ◌+◌, ◌≤◌, Bool, true, false, cond, not, ◌&&◌, eqb, ltb, leb, ◌≢◌, List, [], ◌∷◌, map, length, get_or, Some, None, Option, refl, arith}
use Rattle.std.specs.List.{AllByRecursion}
use Rattle.std.proofs.ByRecursion.{All-weaker, All-from_get_or}
use Rattle.std.proofs.lemmas.Bool.{false≢true, ltb-false, lt-ltb, leb-false, eqb-true, eqb-false, not-false, or_parts}
use Rattle.model.specs.Limits.{outside, least_settings, most_settings, most_devices, most_tests, most_conditions, most_effects, most_surcharges, most_tenths}
use Rattle.model.specs.Lists.{total, some, some_two, repeats}
use Rattle.model.specs.Refusals.{Check, passes}
use Rattle.model.specs.Scenes.{Shape, shape_off}
use Rattle.model.specs.Moves.{Pair, Surcharge, Move}
use Rattle.model.specs.Contents.{slot}
use Rattle.model.specs.Calls.{lawful_slot, counts_off, open_checks, want_checks, move_checks, pairs_of, device_high, setting_high, same_device, tested, tests_off, lengths_off, times_off, extra}
use Rattle.model.proofs.Ranks.{tests_scene}
use Rattle.theory.specs.Wellformed.{LawfulShape, Within, Distinct, LawfulPairs, LawfulSurcharge, LawfulMove, LawfulSlot, ContentsTold}

-- where a list of checks passes, no refusal of it holds
pub no_refusal : (cs : List Check) → passes cs ≡ true → AllByRecursion (λ c. c.holds ≡ false) cs
no_refusal [] h = tt
no_refusal (c ∷ cs) h = go c.holds refl h (no_refusal cs)
  where
    go : (b : Bool) → c.holds ≡ b → cond b false (passes cs) ≡ true → (passes cs ≡ true → AllByRecursion (λ c. c.holds ≡ false) cs) → AllByRecursion (λ c. c.holds ≡ false) (c ∷ cs)
    go true e h on = absurd (false≢true h)
    go false e h on = (e, on h)

inside : (least most n : ℕ) → outside least most n ≡ false → (least ≤ n) × (n ≤ most)
inside least most n h =
    let both = or_parts (ltb n least) (ltb most n) h in
    (ltb-false n least both.0, ltb-false most n both.1)

pub none_passes : {X : Type 0} (t : X → Bool) (xs : List X) → some t xs ≡ false → AllByRecursion (λ x. t x ≡ false) xs
none_passes t [] h = tt
none_passes t (x ∷ xs) h = let both = or_parts (t x) (some t xs) h in (both.0, none_passes t xs both.1)

all_two : {X : Type 0} (P Q R : X → Type 0) → ((x : X) → P x → Q x → R x) → (xs : List X) → AllByRecursion P xs → AllByRecursion Q xs → AllByRecursion R xs
all_two P Q R f [] p q = tt
all_two P Q R f (x ∷ xs) p q = (f x p.0 q.0, all_two P Q R f xs p.1 q.1)

all_of_map : {X Y : Type 0} (P : Y → Type 0) (f : X → Y) (xs : List X) → AllByRecursion P (map f xs) → AllByRecursion (λ x. P (f x)) xs
all_of_map P f [] h = tt
all_of_map P f (x ∷ xs) h = (h.0, all_of_map P f xs h.1)

and_not : (a b : Bool) → (a && b) ≡ false → a ≡ true → b ≡ false
and_not true b h e = h
and_not false b h e = absurd (false≢true e)

-- Pairs

within : (ns : Shape) (p : Pair) → device_high ns p ≡ false → setting_high ns p ≡ false → Within ns p
within ns p h k =
    let less = leb-false (length ns) p.device h in
    (less, leb-false (get_or ns p.device 0) p.setting (and_not (ltb p.device (length ns)) _ k (lt-ltb p.device (length ns) less)))

distinct : (ps : List Pair) → repeats same_device ps ≡ false → Distinct ps
distinct [] h = tt
distinct (p ∷ ps) h =
    let both = or_parts (some (same_device p) ps) (repeats same_device ps) h in (
      All-weaker (λ q. same_device p q ≡ false) (λ q. p.device ≢ q.device) (λ q e. eqb-false p.device q.device e) ps (none_passes (same_device p) ps both.0),
      distinct ps both.1,
    )

lawful_pairs : (ns : Shape) (ps : List Pair) → some (device_high ns) ps ≡ false → some (setting_high ns) ps ≡ false → repeats same_device ps ≡ false → LawfulPairs ns ps
lawful_pairs ns ps h k r = record {
  within = all_two (λ p. device_high ns p ≡ false) (λ p. setting_high ns p ≡ false) (Within ns) (within ns) ps (none_passes _ ps h) (none_passes _ ps k);
  distinct = distinct ps r;
}

lawful_lists : (ns : Shape) (lists : List (List Pair)) → some (some (device_high ns)) lists ≡ false → some (some (setting_high ns)) lists ≡ false → some (repeats same_device) lists ≡ false →
    AllByRecursion (LawfulPairs ns) lists
lawful_lists ns lists h k r =
    all_two (λ ps. (some (device_high ns) ps ≡ false) × (some (setting_high ns) ps ≡ false)) (λ ps. repeats same_device ps ≡ false) (LawfulPairs ns)
    (λ ps both e. lawful_pairs ns ps both.0 both.1 e) lists
    (all_two (λ ps. some (device_high ns) ps ≡ false) (λ ps. some (setting_high ns) ps ≡ false) _ (λ ps a b. (a, b)) lists (none_passes _ lists h) (none_passes _ lists k))
    (none_passes _ lists r)

-- Moves

some_extra : (x : Surcharge) → eqb x.extra 0 ≡ false → 1 ≤ x.extra
some_extra x h = let ne = eqb-false x.extra 0 h in omega (arith, ne)

lawful_surcharges : (ns : Shape) (xs : List Surcharge) → AllByRecursion (LawfulPairs ns) (tested xs) → some tests_off xs ≡ false → some (λ x. eqb x.extra 0) xs ≡ false → AllByRecursion (LawfulSurcharge ns) xs
lawful_surcharges ns xs h k e =
    all_two (λ x. LawfulPairs ns x.tests) (λ x. (tests_off x ≡ false) × (eqb x.extra 0 ≡ false)) (LawfulSurcharge ns)
    (λ x p q. let few = inside 1 most_tests (length x.tests) q.0 in record { pairs = p; some_tests = few.0; few_tests = few.1; some = some_extra x q.1 })
    xs (all_of_map (LawfulPairs ns) (λ x. x.tests) xs h)
    (all_two (λ x. tests_off x ≡ false) (λ x. eqb x.extra 0 ≡ false) _ (λ x a b. (a, b)) xs (none_passes _ xs k) (none_passes _ xs e))

pub lawful_move : (ns : Shape) (m : Move) → passes (move_checks ns m) ≡ true → LawfulMove ns m
lawful_move ns m h =
    let checks = no_refusal (move_checks ns m) h in
    let seven : some (some (device_high ns)) (pairs_of m) ≡ false = checks.0 in
    let eight : some (some (setting_high ns)) (pairs_of m) ≡ false = checks.1.0 in
    let nine : some (repeats same_device) (pairs_of m) ≡ false = checks.1.1.0 in
    let ten : lengths_off m ≡ false = checks.1.1.1.0 in
    let eleven : times_off m.base m.surcharges ≡ false = checks.1.1.1.1.0 in
    let lists = lawful_lists ns (pairs_of m) seven eight nine in
    let long = or_parts (ltb most_conditions (length m.conditions)) _ ten in
    let longer = or_parts (outside 1 most_effects (length m.effects)) _ long.1 in
    let effects = inside 1 most_effects (length m.effects) longer.0 in
    let charges = or_parts (ltb most_surcharges (length m.surcharges)) _ longer.1 in
    let times = or_parts (eqb m.base 0) _ eleven in
    let extras = or_parts (some (λ x. eqb x.extra 0) m.surcharges) _ times.1 in
    let base = eqb-false m.base 0 times.0 in
    record {
      conditioned = lists.0;
      effected = lists.1.0;
      surcharged = lawful_surcharges ns m.surcharges lists.1.1 charges.1 extras.0;
      few_conditions = ltb-false most_conditions (length m.conditions) long.0;
      some_effects = effects.0;
      few_effects = effects.1;
      few_surcharges = ltb-false most_surcharges (length m.surcharges) charges.0;
      some = omega (arith, base);
      most = ltb-false most_tenths (m.base + total extra m.surcharges) extras.1;
    }

lawful_slots : (ns : Shape) (o : Option Move) → lawful_slot ns o ≡ true → LawfulSlot ns o
lawful_slots ns None h = tt
lawful_slots ns (Some m) h = lawful_move ns m h

-- Contents

pub lawful_shape : (ns : Shape) → shape_off ns ≡ false → LawfulShape ns
lawful_shape ns h =
    let both = or_parts (outside 1 most_devices (length ns)) _ h in
    let devices = inside 1 most_devices (length ns) both.0 in
    let each = none_passes (outside least_settings most_settings) ns both.1 in
    record {
      some = devices.0;
      few = devices.1;
      each_some = All-weaker _ (λ n. least_settings ≤ n) (λ n e. (inside least_settings most_settings n e).0) ns each;
      each_few = All-weaker _ (λ n. n ≤ most_settings) (λ n e. (inside least_settings most_settings n e).1) ns each;
    }

pub contents_told : ContentsTold
contents_told c h =
    let checks = no_refusal (open_checks c.settings c.names c.scene (length c.slots)) h.opens in
    let one : counts_off c.settings c.names c.scene ≡ false = checks.0 in
    let eight : some_two leb c.settings c.scene ≡ false = checks.1.1.1.0 in
    let counts = or_parts (shape_off c.settings) _ one in
    let lists = or_parts (not (eqb (length c.names) (length c.settings))) _ counts.1 in
    let masks : not (eqb (length c.masks) (length c.settings)) ≡ false = (no_refusal (want_checks c.settings c.masks) h.wants).0 in
    record {
      shape = lawful_shape c.settings counts.0;
      present = tests_scene c.settings c.scene lists.1 eight;
      as_many_masks = eqb-true (length c.masks) (length c.settings) (not-false _ masks);
      each_slot = All-from_get_or (LawfulSlot c.settings) c.slots None (λ i less. lawful_slots c.settings (slot c i) (h.moves i less));
    }
