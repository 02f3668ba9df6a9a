-- Tests over lists: what a test that passed or failed says of the elements, and the step of a loop over two lists. Assumes nothing.
use Rattle.std.proofs.Common.{◌≡◌, ℕ, zero, suc, ◌<◌, Bool, true, false, cond, ◌||◌, List, [], ◌∷◌, length, get_or, refl, ap, ◌∙◌, inl, inr, arith}
use Rattle.std.proofs.lemmas.Bool.{false≢true, or_right}
use Rattle.model.specs.Lists.{In, every, some}

module _ {X : Type 0} where
  -- an element at which the test passes
  pub some_at : (t : X → Bool) (xs : List X) (k : ℕ) (d : X) → k < length xs → t (get_or xs k d) ≡ true → some t xs ≡ true
  some_at t [] k d h e = absurd (omega arith)
  some_at t (x ∷ xs) zero d h e = rw e
  some_at t (x ∷ xs) (suc k) d h e = or_right (t x) (some t xs) (some_at t xs k d (omega arith) e)

  found_by : (t : X → Bool) (x : X) (xs : List X) (b : Bool) → t x ≡ b → (b || some t xs) ≡ true → (some t xs ≡ true → (k : ℕ) × (k < length xs) × ((d : X) → t (get_or xs k d) ≡ true)) → (k : ℕ) × (k < length (x ∷ xs)) × ((d : X) → t (get_or (x ∷ xs) k d) ≡ true)
  found_by t x xs true h e later = (0, omega arith, λ d. h)
  found_by t x xs false h e later = (suc (later e).0, omega (arith, (later e).1), (later e).2)

  pub some_found : (t : X → Bool) (xs : List X) → some t xs ≡ true → (k : ℕ) × (k < length xs) × ((d : X) → t (get_or xs k d) ≡ true)
  some_found t [] e = absurd (false≢true e)
  some_found t (x ∷ xs) e = found_by t x xs (t x) refl e (λ h. some_found t xs h)

  every_in_by : (t : X → Bool) (b : Bool) (r : Bool) → cond b r false ≡ true → (b ≡ true) × (r ≡ true)
  every_in_by t true r e = (refl, e)
  every_in_by t false r e = absurd (false≢true e)

  -- of each element, where the test passes at each
  pub every_in : (t : X → Bool) (xs : List X) → every t xs ≡ true → (x : X) → In x xs → t x ≡ true
  every_in t [] e x h = elim h [ ]
  every_in t (y ∷ ys) e x (inl h) = ap t h ∙ (every_in_by t (t y) (every t ys) e).0
  every_in t (y ∷ ys) e x (inr h) = every_in t ys (every_in_by t (t y) (every t ys) e).1 x h
