-- Tests that pass nowhere, and the turn of a loop that tests each pair of two lists. Assumes nothing.
use Rattle.std.proofs.Common.{◌≡◌, ℕ, zero, suc, ◌<◌, Bool, false, List, [], ◌∷◌, length, get_or, take, drop, refl, arith}
use Rattle.std.proofs.lemmas.Bool.{or_parts, or_from}
use Rattle.model.specs.Lists.{some}

module _ {X : Type 0} (t : X → Bool) where
  -- a test that passes nowhere
  pub none_take : (i : ℕ) (xs : List X) → some t xs ≡ false → some t (take i xs) ≡ false
  none_take zero xs h = refl
  none_take (suc i) [] h = refl
  none_take (suc i) (x ∷ xs) h =
      let both = or_parts (t x) (some t xs) h in
      or_from (t x) (some t (take i xs)) both.0 (none_take i xs both.1)

  pub none_drop : (i : ℕ) (xs : List X) → some t xs ≡ false → some t (drop i xs) ≡ false
  none_drop zero xs h = h
  none_drop (suc i) [] h = refl
  none_drop (suc i) (x ∷ xs) h = none_drop i xs (or_parts (t x) (some t xs) h).1

  pub none_at : (i : ℕ) (xs : List X) (d : X) → i < length xs → some t xs ≡ false → t (get_or xs i d) ≡ false
  none_at i [] d l h = absurd (omega arith)
  none_at zero (x ∷ xs) d l h = (or_parts (t x) (some t xs) h).0
  none_at (suc i) (x ∷ xs) d l h = none_at i xs d (omega arith) (or_parts (t x) (some t xs) h).1
