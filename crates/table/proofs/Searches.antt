-- What `find_map` over a range of slots answers, from what its closure answers of one slot.
use Rattle.std.proofs.Common.{◌≡◌, ℕ, ◌+◌, ◌-◌, ◌<◌, ◌≤◌, true, false, List, is_some, Option, Some, None, refl, ap, ◌∙◌, subst, arith}
use denote.Param.Members.{Mut, Called}
use Rattle.std.specs.Option.{option_map, unwrap_or, IfSome, IsSomeAnd, MatchOption}
use Rattle.std.specs.Iterator.Runs.{Run, SomeRun, CallKeepsClosure, AllItemsGive, IsFirstToGive}
use Rattle.std.specs.declared.ops.Range.{Range}
use Rattle.std.proofs.iter.Yields.{nat_range_steps}
use Rattle.std.proofs.iter.runs.Sources.{range_runs}
use Rattle.std.proofs.lemmas.Bool.{both_ways}
use Rattle.table.specs.Finds.{FindsIn}
use Rattle.table.specs.declared.found.Found.{Found}
use Rattle.table.specs.declared.found.Found.TheVariants.{At, Free, Full}

-- what holds of an item that is n holds of n
if_read : (P : ℕ → Type 0) (o : Option ℕ) (n : ℕ) → option_map (λ y. y) o ≡ Some n → IfSome o P → P n
if_read P None n e h = absurd (both_ways false refl (ap is_some e))
if_read P (Some x) n e h = subst P (ap (λ (o : Option ℕ). unwrap_or o n) e) h

and_read : (P : ℕ → Type 0) (o : Option ℕ) (n : ℕ) → option_map (λ y. y) o ≡ Some n → IsSomeAnd o P → P n
and_read P None n e h = absurd h
and_read P (Some x) n e h = subst P (ap (λ (o : Option ℕ). unwrap_or o n) e) h

module _ {F B : Type 0} (g : Mut F (ℕ × Unit {0}) (Option B)) (s : Range ℕ) (f : F) (P : ℕ → Option B → Type 0) (met : (x : ℕ) (o : Option B) (q : F) → Called g f (x, tt) o q → (q ≡ f) × P x o) where
  -- no call changes the closure
  keeps : CallKeepsClosure g f
  keeps a r q k = (met a.0 r q k).0

  -- the item at a place is the number that stands there
  read : (p : Run nat_range_steps) → p.from ≡ s → (k : ℕ) → s.start ≤ k → k < s.start + p.len → option_map (λ y. y) (p.at (k - s.start)) ≡ Some k
  read p e k a b = (range_runs p p.seen).3 (k - s.start) (omega (arith, a, b)) ∙ ap Some (omega (arith, ap (λ (t : Range ℕ). t.start) e, a))

  -- a whole run in which each answer is none, and the run up to the first answer that is not
  none_given : (p : Run nat_range_steps) → p.from ≡ s → p.whole ≡ true → AllItemsGive p g f None → (k : ℕ) → s.start ≤ k → k < s.end → P k None
  none_given p e w all k a b =
      let long = (range_runs p p.seen).1 w in
      let here = read p e k a (omega (arith, long, ap (λ (t : Range ℕ). t.start) e, ap (λ (t : Range ℕ). t.end) e, a, b)) in
      (met k None f (if_read (λ x. Called g f (x, tt) None f) (p.at (k - s.start)) k here (all keeps (k - s.start)))).1

  below_given : (p : Run nat_range_steps) → p.from ≡ s → (y : B) (i : ℕ) → i < p.len → IsFirstToGive p g f (Some y) None i → (k : ℕ) → s.start ≤ k → k < s.start + i → P k None
  below_given p e y i l first k a b =
      let here = read p e k a (omega (arith, l, a, b)) in
      (met k None f (and_read (λ x. Called g f (x, tt) None f) (p.at (k - s.start)) k here ((first keeps).1 (k - s.start) (omega (arith, a, b))))).1

  first_given : (p : Run nat_range_steps) → p.from ≡ s → (y : B) (i : ℕ) → i < p.len → IsFirstToGive p g f (Some y) None i → P (s.start + i) (Some y)
  first_given p e y i l first =
      let here = (range_runs p p.seen).3 i l ∙ ap Some (omega (arith, ap (λ (t : Range ℕ). t.start) e)) in
      (met (s.start + i) (Some y) f (and_read (λ x. Called g f (x, tt) (Some y) f) (p.at i) (s.start + i) here (first keeps).0)).1

  -- none, and each number was answered so; or the answer at a number, before which each was answered with none
  pub mapped_from_range : (r : Option B) → SomeRun nat_range_steps s (λ p. MatchOption r ((p.whole ≡ true) × AllItemsGive p g f None) (λ y. (i : ℕ) × (i < p.len) × (p.len ≡ i + 1) × IsFirstToGive p g f (Some y) None i))
      → MatchOption r ((k : ℕ) → s.start ≤ k → k < s.end → P k None) (λ y. (i : ℕ) × (s.start ≤ i) × (i < s.end) × P i (Some y) × ((k : ℕ) → s.start ≤ k → k < i → P k None))
  mapped_from_range None h = none_given h.0 h.1 h.2.0 h.2.1
  mapped_from_range (Some y) h =
      let i = h.2.0 in
      let within = (range_runs h.0 h.0.seen).0 in (
        s.start + i,
        omega arith,
        omega (arith, within, h.2.1, ap (λ (t : Range ℕ). t.start) h.1, ap (λ (t : Range ℕ). t.end) h.1),
        first_given h.0 h.1 y i h.2.1 h.2.3,
        below_given h.0 h.1 y i h.2.1 h.2.3,
      )

module _ {E : Type 0} (alike : E → E → Type 0) (slots : List (Option E)) (e : E) (from to : ℕ) where
  -- what single slots answer, one after another, is what a search in all of them answers
  pub finds_in : (r : Option Found) → MatchOption r ((k : ℕ) → from ≤ k → k < to → FindsIn alike slots e k (k + 1) None) (λ y. (i : ℕ) × (from ≤ i) × (i < to) × FindsIn alike slots e i (i + 1) (Some y) × ((k : ℕ) → from ≤ k → k < i → FindsIn alike slots e k (k + 1) None))
      → FindsIn alike slots e from to r
  finds_in None h = λ m p q. h m p q m (omega arith) (omega arith)
  finds_in (Some (At i)) h = h.3
  finds_in (Some (Free i)) h = record {
    after = omega (arith, h.1, h.3.after);
    within = omega (arith, h.2, h.3.within);
    empty = h.3.empty;
    others = λ m p q. h.4 m p (omega (arith, q, h.3.within, h.3.after)) m (omega arith) (omega arith);
  }
  finds_in (Some Full) h = absurd h.3
