-- The first number of a range at which a closure answers with something. Assumes nothing.
use Rattle.std.proofs.Common.{◌≡◌, ℕ, ◌+◌, ◌<◌, true, Some, None, Option, ap, ◌∙◌, subst, arith}
use Rattle.std.proofs.iter.Yields.{nat_range_steps}
use Rattle.std.proofs.iter.runs.Sources.{range_runs}
use Rattle.std.proofs.lemmas.Option.{none-some, same_Some}
use Rattle.std.specs.Fn.{Called}
use Rattle.std.specs.Iterator.Runs.{Run, SomeRun, AllItemsGive, IsFirstToGive}
use Rattle.std.specs.Option.{MatchOption, IfSome, IsSomeAnd, option_map}
use denote.Param.Members.{Mut}

-- what holds of an item holds of the number that it is
of_all : (P : ℕ → Type 0) (o : Option ℕ) (k : ℕ) → option_map (λ y. y) o ≡ Some k → IfSome o P → P k
of_all P None k e h = absurd (none-some k e)
of_all P (Some x) k e h = subst P (same_Some x k e) h

of_some : (P : ℕ → Type 0) (o : Option ℕ) (k n : ℕ) → IfSome o (λ x. (x ≡ k) × (x < n)) → IsSomeAnd o P → P k
of_some P None k n at h = absurd h
of_some P (Some x) k n at h = subst P at.0 h

-- r is the answer at the first of the numbers below n that has one
abbrev pub FirstBelow : {B : Type 0} → (ℕ → Option B → Type 0) → ℕ → Option B → Type 0
FirstBelow Gives n r = MatchOption r ((k : ℕ) → k < n → Gives k None) (λ y. (i : ℕ) × Gives i (Some y) × ((k : ℕ) → k < i → Gives k None))

module _ {F B : Type 0} (g : Mut F (ℕ × Unit {0}) (Option B)) (f : F) where
  -- what `find_map` says of its run
  abbrev pub Finds : Run nat_range_steps → Option B → Type 0
  Finds p r = MatchOption r ((p.whole ≡ true) × AllItemsGive p g f None) (λ y. (i : ℕ) × (i < p.len) × (p.len ≡ i + 1) × IsFirstToGive p g f (Some y) None i)

  -- and of its result over the numbers below n
  abbrev pub FindsFirst : ℕ → Option B → Type 0
  FindsFirst n r = SomeRun nat_range_steps (record { start = 0; end = n }) (λ p. Finds p r)

module _ {F B : Type 0} (g : Mut F (ℕ × Unit {0}) (Option B)) (f : F) (Gives : ℕ → Option B → Type 0)
    (gives : (x : ℕ) (y : Option B) (q : F) → Called g f (x, tt) y q → (q ≡ f) × Gives x y) where
  module _ (n : ℕ) (p : Run nat_range_steps) (from : p.from ≡ record { start = 0; end = n }) where
    begins : p.from.start ≡ 0
    begins = ap (λ s. s.start) from

    ends : p.from.end ≡ n
    ends = ap (λ s. s.end) from

    counted : (k : ℕ) → k < p.len → option_map (λ y. y) (p.at k) ≡ Some k
    counted k lt = let z : p.from.start + k ≡ k = omega (arith, begins) in (range_runs p p.seen).3 k lt ∙ ap Some z

    placed : (k : ℕ) → IfSome (p.at k) (λ x. (x ≡ k) × (x < n))
    placed k =
        let z : p.from.start + k ≡ k = omega (arith, begins) in
        subst (λ j. IfSome (p.at k) (λ x. (x ≡ j) × (x < n))) z (subst (λ e. IfSome (p.at k) (λ x. (x ≡ p.from.start + k) × (x < e))) ends ((range_runs p p.seen).2 k))

    first_is : (r : Option B) → Finds g f p r → FirstBelow Gives n r
    first_is None (whole, all) = λ k lt.
        (gives k None f (of_all (λ x. Called g f (x, tt) None f) (p.at k) k (counted k (omega (arith, (range_runs p p.seen).1 whole, begins, ends))) (all (λ a y q h. (gives a.0 y q h).0) k))).1
    first_is (Some y) (i, lt, last, first) =
        let h = first (λ a z q h. (gives a.0 z q h).0) in
        (i, (gives i (Some y) f (of_some (λ x. Called g f (x, tt) (Some y) f) (p.at i) i n (placed i) h.0)).1, λ k below. (gives k None f (of_some (λ x. Called g f (x, tt) None f) (p.at k) k n (placed k) (h.1 k below))).1)

  pub first_below : (n : ℕ) (r : Option B) → FindsFirst g f n r → FirstBelow Gives n r
  first_below n r run = first_is n run.0 run.1 r run.2
