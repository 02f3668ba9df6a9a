-- An array mapped by calls that each answer what a function does. Assumes nothing.
use Rattle.std.proofs.Common.{◌≡◌, ℕ, zero, suc, ◌+◌, ◌<◌, ◌≤◌, List, map, length, get_or, sym, ap, ◌∙◌, subst, inl, inr, arith}
use lib.ListN.{length-map}
use Rattle.std.specs.Fn.{Mut, Called}
use Rattle.std.specs.Array.{MapsFrom, IsMapOf}
use Rattle.std.proofs.lemmas.Bool.{cases_eq}
use Rattle.std.proofs.lemmas.List.{same_lists, get_or-map}

module _ {F A B : Type 0} (g : Mut F (A × Unit {0}) B) (h : A → B) (f : F) (step : (x : A) (y : B) (q : F) → Called g f (x, tt) y q → (q ≡ f) × (y ≡ h x)) where
  each_mapped : (xs : List A) (ys : List B) (i n : ℕ) → MapsFrom g f xs ys i n → (k : ℕ) (d : A) (e : B) → i ≤ k → k < i + n → get_or ys k e ≡ h (get_or xs k d)
  each_mapped xs ys i zero m k d e low high = absurd (omega arith)
  each_mapped xs ys i (suc n) (q, x, y, ix, iy, call, rest) k d e low high =
      let s = step x y q call in
      elim (cases_eq k i) [
        | inl p ↦ ap (λ j. get_or ys j e) p ∙ iy.1 e ∙ s.1 ∙ ap h (sym (ix.1 d)) ∙ ap (λ j. h (get_or xs j d)) (sym p)
        | inr p ↦ each_mapped xs ys (i + 1) n (subst (λ r. MapsFrom g r xs ys (i + 1) n) s.0 rest) k d e (omega (arith, p)) (omega arith)
      ]

  pub mapped_is : A → (xs : List A) (ys : List B) (n : ℕ) → length xs ≡ n → IsMapOf g f xs ys n → ys ≡ map h xs
  mapped_is d xs ys n long m =
      same_lists ys (map h xs) (m.long ∙ sym long ∙ sym (length-map xs h))
      (λ k e low. each_mapped xs ys 0 n m.each k d e (omega arith) (omega (arith, low, m.long)) ∙ sym (get_or-map h xs k d e (omega (arith, low, m.long, long))))
