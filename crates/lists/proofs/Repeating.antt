-- The first repeated entry, and the test whether there is one. Assumes nothing.
use Rattle.std.proofs.Common.{◌≡◌, ℕ, zero, suc, ◌<◌, ◌≤◌, take, get_or, Bool, true, false, ◌||◌, List, [], ◌∷◌, length, Option, Some, None, is_some, MatchOption, sym, refl, ap, ap₂, ◌∙◌, arith}
use Rattle.std.proofs.lemmas.List.{get_or_default, get_or-take, length-take-le}
use Rattle.std.proofs.lemmas.Bool.{false≢true, or_right, false_from_ne_true}
use Rattle.model.specs.Lists.{some, repeats}
use Rattle.model.proofs.Tests.{some_at, some_found}
use Rattle.lists.specs.Repeats.{Alike, New, Apart, Repeated, has_stood}

module _ {X : Type 0} (same : X → X → Bool) where
  -- two entries that are the same
  pub alike_some : (xs : List X) (j i : ℕ) → j < i → i < length xs → Alike same xs j i → repeats same xs ≡ true
  alike_some [] j i h l a = absurd (omega arith)
  alike_some (x ∷ xs) zero zero h l a = absurd (omega arith)
  alike_some (x ∷ xs) zero (suc i) h l a = rw (some_at (same x) xs i x (omega arith) (a x))
  alike_some (x ∷ xs) (suc j) zero h l a = absurd (omega arith)
  alike_some (x ∷ xs) (suc j) (suc i) h l a = or_right (some (same x) xs) (repeats same xs) (alike_some xs j i (omega arith) (omega arith) a)

  pub repeated_some : (xs : List X) (i : ℕ) → Repeated same xs i → repeats same xs ≡ true
  repeated_some xs i (l, apart, (j, h, a)) = alike_some xs j i h l a

  by : (x : X) (xs : List X) (b : Bool) → some (same x) xs ≡ b → (b || repeats same xs) ≡ true
      → (repeats same xs ≡ true → (j : ℕ) × (i : ℕ) × (j < i) × (i < length xs) × Alike same xs j i)
      → (j : ℕ) × (i : ℕ) × (j < i) × (i < length (x ∷ xs)) × Alike same (x ∷ xs) j i
  by x xs true h e later = let f = some_found (same x) xs h in (0, suc f.0, omega arith, omega (arith, f.1), f.2)
  by x xs false h e later = let f = later e in (suc f.0, suc f.1, omega (arith, f.2), omega (arith, f.3), f.4)

  -- where the test passes there are two such entries
  pub repeats_found : (xs : List X) → repeats same xs ≡ true → (j : ℕ) × (i : ℕ) × (j < i) × (i < length xs) × Alike same xs j i
  repeats_found [] e = absurd (false≢true e)
  repeats_found (x ∷ xs) e = by x xs (some (same x) xs) refl e (λ h. repeats_found xs h)

  pub apart_none : (xs : List X) → Apart same xs (length xs) → repeats same xs ≡ false
  apart_none xs apart = false_from_ne_true (repeats same xs) (λ e. let f = repeats_found xs e in apart f.1 f.3 f.0 f.2 f.4)

  -- what the first place says of the test
  pub first_tested : (xs : List X) (r : Option ℕ) → MatchOption r (Apart same xs (length xs)) (λ i. Repeated same xs i) → is_some r ≡ repeats same xs
  first_tested xs None apart = sym (apart_none xs apart)
  first_tested xs (Some i) at = sym (repeated_some xs i at)

  -- the entry at i, by any other default
  pub stood_of : (xs : List X) (i : ℕ) (d : X) → i < length xs → some (λ y. same y (get_or xs i d)) (take i xs) ≡ has_stood same xs i
  stood_of [] i d h = absurd (omega arith)
  stood_of (x ∷ xs) i d h = ap (λ v. some (λ y. same y v) (take i (x ∷ xs))) (get_or_default (x ∷ xs) i d x h)

  -- what the test says of the earlier entries
  stood_at : (xs : List X) (i : ℕ) → i < length xs → has_stood same xs i ≡ true → (j : ℕ) × (j < i) × Alike same xs j i
  stood_at [] i h e = absurd (omega arith)
  stood_at (x ∷ xs) i h e =
      let f = some_found (λ y. same y (get_or (x ∷ xs) i x)) (take i (x ∷ xs)) e in
      let lt : f.0 < i = omega (arith, f.1, length-take-le i (x ∷ xs)) in
      (f.0, lt, λ d. ap₂ same (sym (get_or-take i (x ∷ xs) f.0 d lt)) (get_or_default (x ∷ xs) i d x h) ∙ f.2 d)

  new_at : (xs : List X) (i : ℕ) → i < length xs → has_stood same xs i ≡ false → New same xs i i
  new_at [] i h e = absurd (omega arith)
  new_at (x ∷ xs) i h e = λ j lt a.
      let short : j < length (take i (x ∷ xs)) = omega (arith, length-take-le i (x ∷ xs)) in
      let met : has_stood same (x ∷ xs) i ≡ true = some_at (λ y. same y (get_or (x ∷ xs) i x)) (take i (x ∷ xs)) j x short (ap (λ v. same v (get_or (x ∷ xs) i x)) (get_or-take i (x ∷ xs) j x lt) ∙ a x) in
      false≢true (sym e ∙ met)

  -- what a search of the places by the test finds
  pub first_place : (xs : List X) (r : Option ℕ)
      → MatchOption r ((k : ℕ) → 0 ≤ k → k < length xs → has_stood same xs k ≡ false) (λ i. (0 ≤ i) × (i < length xs) × (has_stood same xs i ≡ true) × ((k : ℕ) → 0 ≤ k → k < i → has_stood same xs k ≡ false))
      → MatchOption r (Apart same xs (length xs)) (λ i. Repeated same xs i)
  first_place xs None none = λ k h. new_at xs k h (none k (omega arith) h)
  first_place xs (Some i) (low, h, at, none) = (h, (λ k lt. new_at xs k (omega arith) (none k (omega arith) lt)), stood_at xs i h at)
