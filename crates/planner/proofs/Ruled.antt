-- The whole rule on a shelf: only "no room" can stop it, and what it leaves. Assumes nothing.
use Rattle.std.proofs.Common.{◌≡◌, ℕ, zero, suc, ◌+◌, ◌<◌, Bool, true, false, cond, List, [], ◌∷◌, ◌++◌, length, get_or, drop, set, replicate, IsErrAnd, Some, None, Ok, Err, Option, Result, sym, refl, ap, ◌∙◌, subst, arith}
use Rattle.model.specs.Limits.{peg_count}
use Rattle.model.specs.Refusals.{left_by}
use Rattle.model.specs.Charts.{Chart, at}
use Rattle.model.specs.Contents.{Contents}
use Rattle.model.specs.Calls.{Lawful}
use Rattle.model.specs.Shelves.{Meaning, Pegs, does, done, target, with_pegs, wiped, overfills}
use Rattle.theory.specs.Ways.{RightFor}
use Rattle.rule.specs.Steps.{Step, calls}
use Rattle.rule.specs.Running.{ran, first_overfilling, Fits, First, Told, OnlyRoomIn}
use Rattle.rule.specs.Rule.{chart_after, count, rule}
use Rattle.rule.proofs.Prefixes.{after_one, overfilling_told}
use Rattle.rule.proofs.Refusing.{rule_unrefused}
use Rattle.rule.proofs.Whole.{Five, five, rule_right}
use Rattle.planner.specs.declared.answer.Plan.{Plan}
use Rattle.steps.specs.declared.fault.PlanFault.{PlanFault}
use Rattle.steps.specs.declared.fault.PlanFault.TheVariants.{ShapesDiffer, NoRoom, SheetShort}
use Rattle.steps.specs.Faults.{Stop, OfFault}
use Rattle.steps.specs.Ends.{stopped, ends, leaves, Made}
use Rattle.planner.specs.Walking.{Ready}
use Rattle.planner.specs.Plans.{work_pegs, cleared, Found}
use Rattle.steps.proofs.Steps.{err_is_not_ok}
use Rattle.rounds.proofs.Leaving.{leaves_ran, leaves_shape, hung_peg}

-- Which step stops

abbrev stop_at : Option Step → Result (Unit {0}) Stop
stop_at None = Ok tt
stop_at (Some x) = Err (record { number = 18; step = x })

-- where only want of room can refuse, the first step that overfills is the one that is refused
ends_at : (m : Meaning) (xs : List Step) → OnlyRoomIn m (calls xs) → ends m xs ≡ stop_at (first_overfilling m xs)
ends_at m [] only = refl
ends_at m (x ∷ xs) only =
    ap (λ r. stopped r x (ends (left_by r (after_one m x) m) xs)) only.0.answers ∙ go (overfills m x.call) (ends_at (after_one m x) xs only.1)
  where
    go : (b : Bool) → ends (after_one m x) xs ≡ stop_at (first_overfilling (after_one m x) xs) →
        stopped (cond b (Err 18) (Ok (tt {0}))) x (ends (left_by (cond b (Err 18) (Ok (tt {0}))) (after_one m x) m) xs) ≡ stop_at (cond b (Some x) (first_overfilling (after_one m x) xs))
    go true e = refl
    go false e = e

pub fits_all : (m : Meaning) (xs : List Step) → OnlyRoomIn m (calls xs) → ends m xs ≡ Ok tt → Fits m xs
fits_all m xs only ok = go (first_overfilling m xs) (sym (ends_at m xs only) ∙ ok) (overfilling_told m xs)
  where
    go : (o : Option Step) → stop_at o ≡ Ok tt → Told m xs o → Fits m xs
    go None e told = told
    go (Some x) e told = absurd (err_is_not_ok _ _ e)

same_stop : (s t : Stop) → ◌≡◌ {A = Result (Unit {0}) Stop} (Err s) (Err t) → s ≡ t
same_stop s t e = cc

pub first_of_all : (m : Meaning) (xs : List Step) → OnlyRoomIn m (calls xs) → (s : Stop) → ends m xs ≡ Err s → (s.number ≡ 18) × First m xs s.step
first_of_all m xs only s bad = go (first_overfilling m xs) (sym (ends_at m xs only) ∙ bad) (overfilling_told m xs)
  where
    go : (o : Option Step) → stop_at o ≡ Err s → Told m xs o → (s.number ≡ 18) × First m xs s.step
    go None e told = absurd (err_is_not_ok s tt (sym e))
    go (Some x) e told =
        let z : record { number = 18; step = x } ≡ s = same_stop (record { number = 18; step = x }) s e in
        (ap (λ (t : Stop). t.number) (sym z), subst (λ (t : Stop). First m xs t.step) z told)

-- What is left

drop_set_low : (ps : Pegs) (t k : ℕ) (v : Option Chart) → t < k → drop k (set ps t v) ≡ drop k ps
drop_set_low [] t k v h = refl
drop_set_low (p ∷ ps) t zero v h = absurd (omega arith)
drop_set_low (p ∷ ps) zero (suc k) v h = refl
drop_set_low (p ∷ ps) (suc t) (suc k) v h = drop_set_low ps t k v (omega arith)

pub leaves_cleared : (m : Meaning) (xs : List Step) → OnlyRoomIn m (calls xs) → cleared (leaves m xs) ≡ cleared m
leaves_cleared m [] only = refl
leaves_cleared m (x ∷ xs) only = go (does m x.call) (leaves_cleared (done m x.call) xs)
  where
    low : cleared (after_one m x) ≡ cleared m
    low = ap (λ ps. with_pegs m (replicate work_pegs None ++ ps)) (drop_set_low m.pegs (target x.call) work_pegs _ only.0.low)

    go : (r : Result (Unit {0}) ℕ) → (OnlyRoomIn (left_by r (after_one m x) m) (calls xs) → cleared (leaves (left_by r (after_one m x) m) xs) ≡ cleared (left_by r (after_one m x) m)) →
        cleared (left_by r (leaves (left_by r (after_one m x) m) xs) m) ≡ cleared m
    go (Ok _) f = f only.1 ∙ low
    go (Err n) f = refl

module _ (c : Contents) (law : Lawful c) (m : Meaning) (same : m.shape ≡ c.settings) (long : length m.pegs ≡ peg_count) where
  only_room : OnlyRoomIn m (calls (rule c))
  only_room = rule_unrefused c law m same long

  pub left_cleared : (n : Meaning) → n ≡ leaves m (rule c) → cleared n ≡ cleared m
  left_cleared n e = ap cleared e ∙ leaves_cleared m (rule c) only_room

  pub any_cleared : {X : Type 0} (n : Meaning) (r : Result X PlanFault) → Made m (rule c) r n → cleared n ≡ cleared m
  any_cleared n (Ok x) h = left_cleared n h.1
  any_cleared n (Err e) h = left_cleared n h.3

  fault_found : (n : Meaning) (old : List ℕ) (e : PlanFault) (s : Stop) → OfFault e s → ends m (rule c) ≡ Err s → Found c m old (Err e) old
  fault_found n old ShapesDiffer s of bad = of
  fault_found n old (NoRoom f h k o) s of bad =
      let told = first_of_all m (rule c) only_room s bad in
      (ap (λ (t : Stop). t.number) (sym of) ∙ told.0, subst (λ (t : Stop). First m (rule c) t.step) of told.1, refl)
  fault_found n old (SheetShort k) s of bad = absurd of

  -- the rule was stopped
  pub stop_found : (n : Meaning) (old : List ℕ) (e : PlanFault) (r : Result Plan PlanFault) → IsErrAnd r (λ y. y ≡ e) → Made {X = ℕ} m (rule c) (Err e) n → Found c m old r old
  stop_found n old e (Ok p) b h = absurd b
  stop_found n old e (Err y) b h = subst (λ f. Found c m old (Err f) old) (sym b) (fault_found n old e h.0 h.1 h.2)

  -- it was followed to its end
  module _ (n : Meaning) (h : (ends m (rule c) ≡ Ok tt) × (n ≡ leaves m (rule c))) where
    pub rule_fits : Fits m (rule c)
    rule_fits = fits_all m (rule c) only_room h.0

    hangs : get_or n.pegs 0 None ≡ Some (chart_after c (count c))
    hangs =
        ap (λ (k : Meaning). get_or k.pegs 0 None) (h.1 ∙ leaves_ran m (rule c) h.0)
        ∙ ap (λ ns. get_or (ran ns m.pegs (calls (rule c))) 0 None) same ∙ (rule_right c law m.pegs long).first

    pub ready : Ready c n
    ready =
        let told = hung_peg n.pegs 0 (chart_after c (count c)) hangs in
        record {
          lawful = law;
          shape = ap (λ (k : Meaning). k.shape) h.1 ∙ leaves_shape m (rule c) ∙ same;
          hung = told.0;
          right = subst (λ x. RightFor c (at c.settings x)) (sym told.1) (rule_right c law m.pegs long).right;
        }

-- Wiping

-- the shelf after its first i pegs were wiped
abbrev pub wiped_below : Meaning → ℕ → Meaning
wiped_below m i = with_pegs m (replicate i None ++ drop i m.pegs)

pub wiped_more : (m : Meaning) → length m.pegs ≡ peg_count → (i : ℕ) → i < work_pegs → wiped (wiped_below m i) i ≡ wiped_below m (i + 1)
wiped_more m long i h = by_five (five m.pegs long) i h
  where
    by_five : Five m.pegs → (i : ℕ) → i < work_pegs → wiped (wiped_below m i) i ≡ wiped_below m (i + 1)
    by_five k zero h = rw k.is
    by_five k (suc zero) h = rw k.is
    by_five k (suc (suc zero)) h = rw k.is
    by_five k (suc (suc (suc zero))) h = rw k.is
    by_five k (suc (suc (suc (suc zero)))) h = rw k.is
    by_five k (suc (suc (suc (suc (suc i))))) h = absurd (omega arith)
