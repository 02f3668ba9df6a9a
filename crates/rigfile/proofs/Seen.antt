-- The moves of the code, as bytes. Assumes nothing.
use Rattle.std.proofs.Common.{◌≡◌, ℕ, ◌+◌, ◌*◌, ◌≤◌, List, [], ◌∷◌, ◌++◌, map, length, Some, sym, refl, ap, ◌∙◌, append-nil, arith, length-append}
use Rattle.std.specs.List.{flat_map, AllByRecursion}
use Rattle.std.proofs.lemmas.List.{length-map, length-take}
use Rattle.std.proofs.lemmas.List.Folds.{flat_map-map}
use Rattle.lists.specs.declared.short.Short.{Short}
use Rattle.lists.specs.Shorts.{listed}
use Rattle.model.specs.Limits.{most_conditions, most_effects, most_surcharges, most_tests}
use Rattle.model.specs.Moves as model
use Rattle.moves.specs.declared.pair.Pair.{Pair}
use Rattle.moves.specs.declared.entry.Surcharge.{Surcharge}
use Rattle.moves.specs.declared.entry.Move.{Move}
use Rattle.moves.specs.Views.{pair_of, pairs_of, surcharge_of, move_of}
use Rattle.format.specs.Bytes.{two, pair}
use Rattle.format.specs.Files.{Entry, surcharge, entry}
use Rattle.format.proofs.Sizes.{surcharge_long, entry_long}
use Rattle.rigfile.specs.declared.writer.Writer.{Writer}
use Rattle.rigfile.proofs.Written.{Ahead, begin, room, turn}
use Rattle.rigfile.specs.Writing.{Room, Puts, pair_bytes, surcharge_bytes, slot_bytes}

-- what all items of a map have
pub all_of_map : {X Y : Type 0} (P : Y → Type 0) (f : X → Y) (xs : List X) → AllByRecursion P (map f xs) → AllByRecursion (λ x. P (f x)) xs
all_of_map P f [] h = tt
all_of_map P f (x ∷ xs) h = (h.0, all_of_map P f xs h.1)

-- pairs of the code
module _ (ps : List Pair) (qs : List model.Pair) (seen : pairs_of ps ≡ qs) where
  pub pairs_seen : flat_map pair_bytes ps ≡ flat_map pair qs
  pairs_seen = sym (flat_map-map pair pair_of ps) ∙ ap (flat_map pair) seen

  pub as_many_pairs : length ps ≡ length qs
  as_many_pairs = sym (length-map ps pair_of) ∙ ap length seen

-- a surcharge in its parts
module _ (x : model.Surcharge) (ps : List Pair) (seen : pairs_of ps ≡ x.tests) where
  -- once the number of tests and the extra are put, the tests are ahead
  pub after_extra : (extra : ℕ) → extra ≡ x.extra → {old mid new : Writer} → Room old (surcharge x) → Puts old (length ps ∷ []) mid → Puts mid (two extra) new → Ahead old (surcharge x) (flat_map pair_bytes ps) new
  after_extra extra e {old} enough p q =
      let ts = flat_map pair_bytes ps in
      let parted : length ps ∷ (two extra ++ ts) ≡ surcharge x = λ i. as_many_pairs ps x.tests seen i ∷ (two (e i) ++ pairs_seen ps x.tests seen i) in
      turn ts refl (turn (two extra ++ ts) (sym parted) (begin old (surcharge x) enough) p) q

  pub surcharge_size : length (surcharge x) ≡ 3 + 2 * length ps
  surcharge_size = surcharge_long x ∙ ap (λ (n : ℕ). 3 + 2 * n) (sym (as_many_pairs ps x.tests seen))

-- a move in its parts
module _ (number : ℕ) (m : model.Move) (cs es : List Pair) (xs : List Surcharge) (a : pairs_of cs ≡ m.conditions) (b : pairs_of es ≡ m.effects) (c : map surcharge_of xs ≡ m.surcharges) where
  abbrev numbered : Entry
  numbered = record { number = number; move = m }

  surcharges_seen : flat_map surcharge_bytes xs ≡ flat_map surcharge m.surcharges
  surcharges_seen = sym (flat_map-map surcharge surcharge_of xs) ∙ ap (flat_map surcharge) c

  as_many_surcharges : length xs ≡ length m.surcharges
  as_many_surcharges = sym (length-map xs surcharge_of) ∙ ap length c

  abbrev last : List ℕ
  last = flat_map surcharge_bytes xs

  abbrev more : List ℕ
  more = flat_map pair_bytes es ++ last

  -- once the number, the lengths and the base are put, the lists are ahead
  module _ {base : ℕ} {old mid new : Writer} (e : base ≡ m.base) (enough : Room old (entry numbered)) (p : Puts old (number ∷ length cs ∷ length es ∷ length xs ∷ []) mid) (q : Puts mid (two base) new) where
    after_base : Ahead old (entry numbered) (flat_map pair_bytes cs ++ more) new
    after_base =
        let parted : number ∷ length cs ∷ length es ∷ length xs ∷ (two base ++ (flat_map pair_bytes cs ++ more)) ≡ entry numbered =
        λ i. number ∷ as_many_pairs cs m.conditions a i ∷ as_many_pairs es m.effects b i ∷ as_many_surcharges i ∷ (two (e i) ++ (pairs_seen cs m.conditions a i ++ (pairs_seen es m.effects b i ++ surcharges_seen i))) in
        turn (flat_map pair_bytes cs ++ more) refl (turn (two base ++ (flat_map pair_bytes cs ++ more)) (sym parted) (begin old (entry numbered) enough) p) q

    pub conditions_room : Room new (flat_map pair_bytes cs)
    conditions_room = room (flat_map pair_bytes cs) more refl after_base

    module _ {then : Writer} (r : Puts new (flat_map pair_bytes cs) then) where
      pub effects_room : Room then (flat_map pair_bytes es)
      effects_room = room (flat_map pair_bytes es) last refl (turn more refl after_base r)

      pub after_effects : {end : Writer} → Puts then (flat_map pair_bytes es) end → Ahead old (entry numbered) (flat_map surcharge_bytes xs) end
      after_effects = turn last refl (turn more refl after_base r)

  pub move_size : length (entry numbered) ≡ 6 + 2 * length cs + 2 * length es + length (flat_map surcharge_bytes xs)
  move_size =
      let l = entry_long numbered in
      let i = as_many_pairs cs m.conditions a in
      let j = as_many_pairs es m.effects b in
      let k = ap length surcharges_seen in
      omega (arith, l, i, j, k)

-- no list is longer than its type lets it be
few : {X Y : Type 0} {n : ℕ} (f : X → Y) (s : Short X n) → length (map f (listed s)) ≤ n
few f s = let l = length-map (listed s) f in let m = length-take s.len s.items in omega (arith, l, m, s.few)

pub few_tests : (x : Surcharge) → length (surcharge_of x).tests ≤ most_tests
few_tests x = few pair_of x.tests

pub surcharge_small : (x : Surcharge) → length (surcharge_bytes x) ≤ 9
surcharge_small x = let l = surcharge_long (surcharge_of x) in omega (arith, l, few_tests x)

pub surcharges_small : (xs : List Surcharge) → length (flat_map surcharge_bytes xs) ≤ 9 * length xs
surcharges_small [] = omega arith
surcharges_small (x ∷ xs) = let l = length-append (surcharge_bytes x) (flat_map surcharge_bytes xs) in omega (arith, l, surcharge_small x, surcharges_small xs)

pub few_conditions : (m : Move) → length (move_of m).conditions ≤ most_conditions
few_conditions m = few pair_of m.conditions

pub few_effects : (m : Move) → length (move_of m).effects ≤ most_effects
few_effects m = few pair_of m.effects

pub few_surcharges : (m : Move) → length (move_of m).surcharges ≤ most_surcharges
few_surcharges m = few surcharge_of m.surcharges

-- and no move is long
pub size_small : (m : Move) (cs es : List Pair) (xs : List Surcharge) → pairs_of cs ≡ (move_of m).conditions → pairs_of es ≡ (move_of m).effects → map surcharge_of xs ≡ (move_of m).surcharges → 6 + 2 * length cs + 2 * length es + length (flat_map surcharge_bytes xs) ≤ 126
size_small m cs es xs a b c =
    let i = as_many_pairs cs (move_of m).conditions a in
    let j = as_many_pairs es (move_of m).effects b in
    let k = sym (length-map xs surcharge_of) ∙ ap length c in
    omega (arith, i, j, k, few_conditions m, few_effects m, few_surcharges m, surcharges_small xs)

pub slot_used : (n : ℕ) (m : Move) → slot_bytes n (Some m) ≡ entry (record { number = n; move = move_of m })
slot_used n m = append-nil (entry (record { number = n; move = move_of m }))
