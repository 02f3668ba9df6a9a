-- Round 0, and the rounds after it. Assumes nothing.
use Rattle.std.proofs.Common.{◌≡◌, ℕ, List, ◌++◌, length, get_or, IsErrAnd, Some, None, Ok, Err, Result, sym, ap, ◌∙◌, subst}
use Rattle.model.specs.Limits.{peg_count}
use Rattle.model.specs.Contents.{Contents}
use Rattle.model.specs.Calls.{Lawful}
use Rattle.model.specs.Shelves.{Meaning}
use Rattle.rule.specs.Steps.{marked, round_0}
use Rattle.rule.specs.Rule.{chart_after, rule}
use Rattle.steps.specs.declared.halt.Halt.{Halt}
use Rattle.steps.specs.declared.fault.PlanFault.{PlanFault}
use Rattle.steps.specs.declared.fault.PlanFault.TheVariants.{NoRoom}
use Rattle.steps.specs.Faults.{OfHalt, OfFault}
use Rattle.steps.specs.Ends.{ends, leaves, Ended, Made}
use Rattle.rounds.specs.Rounds.{rounds_after}
use Rattle.steps.proofs.Steps.{Onward, onward_none, more, rest_made}
use Rattle.rounds.proofs.OfRounds.{made_broken}
use Rattle.rounds.proofs.Leaving.{leaves_shape, zeroth_leaves}
use Rattle.rounds.proofs.Going.{rule_parts}

module _ (c : Contents) (m : Meaning) (masks : List ℕ) (e : masks ≡ c.masks) where
  begun : Onward m (rule c) m (marked 0 None (round_0 masks) ++ rounds_after c 0)
  begun = subst (Onward m (rule c) m) (rule_parts c ∙ ap (λ ms. marked 0 None (round_0 ms) ++ rounds_after c 0) (sym e)) (onward_none m (rule c))

  pub zeroth_broken : {X : Type 0} (k : Meaning) (f : Halt) (a : Result X PlanFault) → IsErrAnd a (λ y. y ≡ NoRoom f.fault f.call f.round None) →
      Ended {X = Unit {0}} (OfHalt None) m (marked 0 None (round_0 masks)) (Err f) k → Made m (rule c) a k
  zeroth_broken k f a b h = made_broken (marked 0 None (round_0 masks)) (rounds_after c 0) k f a b begun h

  module _ (k : Meaning) (h : (ends m (marked 0 None (round_0 masks)) ≡ Ok tt) × (k ≡ leaves m (marked 0 None (round_0 masks)))) where
    made : (ends m (marked 0 None (round_0 c.masks)) ≡ Ok tt) × (k ≡ leaves m (marked 0 None (round_0 c.masks)))
    made = subst (λ ms. (ends m (marked 0 None (round_0 ms)) ≡ Ok tt) × (k ≡ leaves m (marked 0 None (round_0 ms)))) e h

    pub zeroth_shape : m.shape ≡ c.settings → k.shape ≡ c.settings
    zeroth_shape same = ap (λ (j : Meaning). j.shape) h.1 ∙ leaves_shape m (marked 0 None (round_0 masks)) ∙ same

    pub zeroth_first : Lawful c → m.shape ≡ c.settings → length m.pegs ≡ peg_count → get_or k.pegs 0 None ≡ Some (chart_after c 0)
    zeroth_first law same long = ap (λ (j : Meaning). get_or j.pegs 0 None) made.1 ∙ zeroth_leaves c law m same long made.0

    pub zeroth_then : {X : Type 0} (n : Meaning) (a : Result X PlanFault) → Made k (rounds_after c 0) a n → Made m (rule c) a n
    zeroth_then n a w = rest_made OfFault (rounds_after c 0) n a (more {X = Unit {0}} (OfHalt None) (marked 0 None (round_0 masks)) (rounds_after c 0) k tt begun h) w
