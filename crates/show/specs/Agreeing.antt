-- Two plans of rigs that are alike. Assumes nothing.
use Rattle.std.specs.Prelude.{◌≡◌, ℕ, List, take, None, Ok, Err, Result}
use Rattle.model.specs.Contents.{Contents}
use Rattle.model.specs.Shelves.{Meaning}
use Rattle.theory.specs.Alike.{Alike}
use Rattle.planner.specs.declared.answer.Plan.{Plan}
use Rattle.planner.specs.declared.answer.Plan.TheVariants.{Way, NoWay}
use Rattle.steps.specs.declared.fault.PlanFault.{PlanFault}
use Rattle.planner.specs.Plans.{refusal, Planned}

-- both say the same moves and the same time, or both "no way"; and the same rounds where P holds
abbrev pub Agree : Type 0 → Result Plan PlanFault → List ℕ → Result Plan PlanFault → List ℕ → Type 0
Agree P (Ok (Way n t r)) sheet (Ok (Way k u s)) other = (take n sheet ≡ take k other) × (n ≡ k) × (t ≡ u) × (P → r ≡ s)
Agree P (Ok (Way n t r)) sheet (Ok (NoWay s)) other = ⊥
Agree P (Ok (Way n t r)) sheet (Err e) other = ⊥
Agree P (Ok (NoWay r)) sheet (Ok (Way k u s)) other = ⊥
Agree P (Ok (NoWay r)) sheet (Ok (NoWay s)) other = P → r ≡ s
Agree P (Ok (NoWay r)) sheet (Err e) other = ⊥
Agree P (Err e) sheet b other = ⊥

-- a plan that was made of a rig with the contents c, and not sent back
pub record Made (c : Contents) : Type 0 where
  pub before : Meaning
  pub after : Meaning
  pub blank : List ℕ
  pub sheet : List ℕ
  pub answer : Result Plan PlanFault
  pub planned : Planned c before blank answer after sheet
  pub accepted : refusal answer ≡ None

-- any two of them, on whichever shelves, of contents that are alike in moves and their numbers, scene and masks, agree,
-- even where their settings counts differ; on the rounds where those are the same
abbrev pub PlansAgree : Type 0
PlansAgree =
    (c d : Contents) → Alike c d → (one : Made c) (other : Made d) →
    Agree (c.settings ≡ d.settings) one.answer one.sheet other.answer other.sheet
