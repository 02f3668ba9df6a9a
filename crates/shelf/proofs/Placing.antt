-- The place of a scene, setting by setting. Assumes nothing.
use Rattle.std.proofs.Common.{◌≡◌, ℕ, ◌+◌, ◌*◌, ◌<◌, ◌≤◌, ◌^◌, Bool, true, false, ◌||◌, leb, List, [], ◌∷◌, Some, None, Option, Bor, Iter, length, sym, refl, ap, ◌∙◌, subst, ◌⊎◌, inl, inr, not, Ok, Err, Result, MatchOption, arith}
use Rattle.std.proofs.lemmas.Bool.{lt-leb, le-leb, or_parts, or_left}
use Rattle.std.proofs.lemmas.Nat.{mul-le}
use Rattle.std.specs.Iterator.{Yields}
use Rattle.std.specs.Iterator.Adapters.{zip_first, zip_second}
use Rattle.std.specs.List.{FoldsTo}
use Rattle.std.specs.Slice.Iter.{iter_rest}
use Rattle.std.specs.declared.iter.Zip.{Zip}
use Rattle.std.proofs.iter.Yields.{fronts}
use Rattle.std.proofs.lemmas.Iterator.{zips}
use Rattle.std.proofs.lemmas.Slice.Zip.{Zip-more, either_empty_from_Zip}
use Rattle.std.specs.Bool.{◌==◌}
use Rattle.model.specs.Lists.{some, some_two}
use Rattle.model.specs.Refusals.{refuse, answer}
use Rattle.model.specs.Shelves.{scene_checks}
use Rattle.model.proofs.Refusing.{accepts, refuses}
use Rattle.shelf.specs.Faults.{numbered}
use Rattle.shelf.specs.declared.fault.ShelfFault.{ShelfFault}
use Rattle.shelf.specs.declared.fault.ShelfFault.TheVariants.{SettingHigh}
use Rattle.model.specs.Scenes.{Shape, Scene, size, rank}
use Rattle.model.proofs.Sizes.{count_off, size_some, size_most}

-- q is the place of a scene's settings before ys, whose devices have the counts ms, as p is of those before xs and ns
pub record Led (p : ℕ) (ns : Shape) (xs : Scene) (q : ℕ) (ms : Shape) (ys : Scene) : Type 0 where
  pub long : length ys ≡ length ms
  pub legal : some count_off ms ≡ false
  pub place : q * size ms + rank ms ys ≡ p * size ns + rank ns xs
  pub tests : some_two leb ms ys ≡ some_two leb ns xs
  pub low : (q + 1) * size ms ≤ (p + 1) * size ns

-- one setting more
led_one : (p x n : ℕ) (ns : Shape) (xs : Scene) → length (x ∷ xs) ≡ length (n ∷ ns) → some count_off (n ∷ ns) ≡ false → x < n → Led p (n ∷ ns) (x ∷ xs) (p * n + x) ns xs
led_one p x n ns xs long legal low =
    record {
      long = omega (arith, long);
      legal = (or_parts (count_off n) (some count_off ns) legal).1;
      place = omega arith;
      tests = sym (ap (λ (b : Bool). b || some_two leb ns xs) (lt-leb n x low));
      low = omega (arith, mul-le (p * n + x + 1) (size ns) ((p + 1) * n) (size ns) (omega (arith, low)) (omega arith));
    }

-- and one after another
led_on : (p : ℕ) (ns : Shape) (xs : Scene) (q : ℕ) (ms : Shape) (ys : Scene) (r : ℕ) (ls : Shape) (zs : Scene) → Led p ns xs q ms ys → Led q ms ys r ls zs → Led p ns xs r ls zs
led_on p ns xs q ms ys r ls zs a b = record { long = b.long; legal = b.legal; place = b.place ∙ a.place; tests = b.tests ∙ a.tests; low = omega (arith, a.low, b.low) }

abbrev Both : Type 0
Both = Zip (Iter ℕ) (Iter ℕ)

abbrev settings_of : Both → Scene
settings_of s = iter_rest (zip_first s)

abbrev counts_of : Both → Shape
counts_of s = iter_rest (zip_second s)

-- the turns of a fold over both lists
module _ {F : Type 0} (R : F × ℕ → Bor ℕ × Bor ℕ → F × ℕ → Type 0) (turn : (p : F × ℕ) (x : Bor ℕ × Bor ℕ) (q : F × ℕ) → R p x q → (x.0.now < x.1.now) × (q.1 ≡ p.1 * x.1.now + x.0.now)) where
  led : (zs : List (Bor ℕ × Bor ℕ)) (s t : Both) (p q : F × ℕ) → Yields (zips fronts fronts) s zs t → FoldsTo R p zs q
      → length (settings_of s) ≡ length (counts_of s) → some count_off (counts_of s) ≡ false → Led p.1 (counts_of s) (settings_of s) q.1 (counts_of t) (settings_of t)
  led [] s t p q y c long legal =
      subst (λ (u : Both). Led p.1 (counts_of s) (settings_of s) q.1 (counts_of u) (settings_of u)) y
      (subst (λ (k : F × ℕ). Led p.1 (counts_of s) (settings_of s) k.1 (counts_of s) (settings_of s)) c (record { long = long; legal = legal; place = refl; tests = refl; low = omega arith }))
  led (z ∷ zs) s t p q y c long legal =
      let front = Zip-more s y.0 (Some z) z refl y.1 in
      let now = turn p z c.0 c.1 in
      let one : Led p.1 (counts_of s) (settings_of s) c.0.1 (counts_of y.0) (settings_of y.0) =
      rw (front.0, front.1, now.1) (led_one p.1 z.0.now z.1.now (counts_of y.0) (settings_of y.0) (ap length (sym front.0) ∙ long ∙ ap length front.1) (ap (some count_off) (sym front.1) ∙ legal) now.0) in
      led_on _ _ _ _ _ _ _ _ _ one (led zs y.0 t c.0 q y.2 c.2 one.long one.legal)

  -- those over the counts and the settings of a scene, from the first on
  module _ (ns : Shape) (few : length ns ≤ 12) (legal : some count_off ns ≡ false) (xs : Scene) (long : length xs ≡ length ns) (s : Both) (first : settings_of s ≡ xs) (second : counts_of s ≡ ns) (zs : List (Bor ℕ × Bor ℕ)) (t u : Both) (f : F) (q : F × ℕ) (y : Yields (zips fronts fronts) s zs t) (c : FoldsTo R (f, 0) zs q) where
    so_far : Led 0 ns xs q.1 (counts_of t) (settings_of t)
    so_far =
        subst (λ (k : Shape). Led 0 k xs q.1 (counts_of t) (settings_of t)) second
        (subst (λ (k : Scene). Led 0 (counts_of s) k q.1 (counts_of t) (settings_of t)) first
        (led zs s t (f, 0) q y c (ap length first ∙ long ∙ sym (ap length second)) (ap (some count_off) second ∙ legal)))

    -- one more setting fits
    pub fits : (z : Bor ℕ × Bor ℕ) → zips fronts fronts t (Some z) u → z.0.now < z.1.now → q.1 * z.1.now + z.0.now < 8 ^ 12
    fits z h low =
        let front = Zip-more t u (Some z) z refl h in
        let one = led_one q.1 z.0.now z.1.now (counts_of u) (settings_of u) (ap length (sym front.0) ∙ so_far.long ∙ ap length front.1) (ap (some count_off) (sym front.1) ∙ so_far.legal) low in
        let more = mul-le (q.1 * z.1.now + z.0.now + 1) 1 (q.1 * z.1.now + z.0.now + 1) (size (counts_of u)) (omega arith) (size_some (counts_of u) one.legal) in
        omega (arith, one.low, so_far.low, size_most ns legal few, more, ap (λ (k : Shape). (q.1 + 1) * size k) front.1)

    -- the last of them was passed
    whole : zips fronts fronts t None u → (some_two leb ns xs ≡ false) × (q.1 ≡ rank ns xs)
    whole h = by (counts_of t) (settings_of t) so_far (either_empty_from_Zip t u None refl h)
      where
        by : (ms : Shape) (ys : Scene) → Led 0 ns xs q.1 ms ys → (ys ≡ []) ⊎ (ms ≡ []) → (some_two leb ns xs ≡ false) × (q.1 ≡ rank ns xs)
        by [] [] k e = (sym k.tests, omega (arith, k.place))
        by [] (y ∷ ys) k e = absurd (omega (arith, k.long))
        by (m ∷ ms) [] k e = absurd (omega (arith, k.long))
        by (m ∷ ms) (y ∷ ys) k (inl e) = absurd (omega (arith, ap length e))
        by (m ∷ ms) (y ∷ ys) k (inr e) = absurd (omega (arith, ap length e))

    -- or one was too high
    too_high : (z : Bor ℕ × Bor ℕ) → zips fronts fronts t (Some z) u → z.1.now ≤ z.0.now → some_two leb ns xs ≡ true
    too_high z h high =
        let front = Zip-more t u (Some z) z refl h in
        sym so_far.tests ∙ rw (front.0, front.1) (or_left (leb z.1.now z.0.now) (some_two leb (counts_of u) (settings_of u)) (le-leb z.1.now z.0.now high))

    same_length : not (length xs == length ns) ≡ false
    same_length = grind (arith, long)

    pub answered : (Q : Type 0) (B : Bor ℕ × Bor ℕ → Type 0) (o : Option (Bor ℕ × Bor ℕ)) (r : Result ℕ ShelfFault) → zips fronts fronts t o u → MatchOption o Q B
        → (Q → r ≡ Ok q.1) → ((z : Bor ℕ × Bor ℕ) → B z → (z.1.now ≤ z.0.now) × (r ≡ Err SettingHigh)) → numbered r ≡ answer (scene_checks ns xs) (rank ns xs)
    answered Q B None r h d ok err =
        let w = whole h in
        ap numbered (ok d) ∙ ap Ok w.1 ∙ sym (accepts (scene_checks ns xs) (rank ns xs) (same_length, (w.0, tt)))
    answered Q B (Some z) r h d ok err =
        let w = err z d in
        ap numbered w.1 ∙ sym (refuses (refuse 1 (not (length xs == length ns)) ∷ []) 8 (some_two leb ns xs) [] (rank ns xs) (same_length, tt) (too_high z h w.0))
