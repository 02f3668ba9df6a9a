-- How a list of steps ends on a shelf that may refuse one of them. Assumes nothing.
use Rattle.std.specs.Prelude.{◌≡◌, ℕ, List, [], ◌∷◌, Ok, Err, Option, Result}
use Rattle.model.specs.Refusals.{left_by}
use Rattle.model.specs.Shelves.{Meaning, Call, does, done}
use Rattle.rule.specs.Steps.{Step, marked}
use Rattle.steps.specs.declared.halt.Halt.{Halt}
use Rattle.steps.specs.declared.fault.PlanFault.{PlanFault}
use Rattle.steps.specs.declared.round.Round.{Round}
use Rattle.steps.specs.Faults.{Stop, OfHalt, OfFault}

-- refused at this step, or as the steps after it end
abbrev pub stopped : Result (Unit {0}) ℕ → Step → Result (Unit {0}) Stop → Result (Unit {0}) Stop
stopped (Ok _) x r = r
stopped (Err n) x r = Err (record { number = n; step = x })

-- the steps one after another, up to the first that is refused
abbrev pub ends : Meaning → List Step → Result (Unit {0}) Stop
ends m [] = Ok tt
ends m (x ∷ xs) = stopped (does m x.call) x (ends (done m x.call) xs)

-- and what they leave
abbrev pub leaves : Meaning → List Step → Meaning
leaves m [] = m
leaves m (x ∷ xs) = left_by (does m x.call) (leaves (done m x.call) xs) m

-- code has made these steps, up to the first that is refused, which its error stands for
abbrev pub Ended : {X E : Type 0} → (E → Stop → Type 0) → Meaning → List Step → Result X E → Meaning → Type 0
Ended Of m xs (Ok _) n = (ends m xs ≡ Ok tt) × (n ≡ leaves m xs)
Ended Of m xs (Err e) n = (s : Stop) × Of e s × (ends m xs ≡ Err s) × (n ≡ leaves m xs)

-- calls of one round, whichever move they belong to
abbrev pub Hung : Meaning → ℕ → List Call → Result (Unit {0}) Halt → Meaning → Type 0
Hung m round cs r n = (o : Option ℕ) → Ended (OfHalt o) m (marked round o cs) r n

-- such calls on the shelf that a round holds, and goes on holding under its number
pub record Took {S : Type 0} (meaning : S → Meaning) (before : Round S) (cs : List Call) (r : Result (Unit {0}) Halt) (after : Round S) : Type 0 where
  pub ended : Hung (meaning before.shelf.now) before.number cs r (meaning after.shelf.now)
  pub number : after.number ≡ before.number
  pub shelf : after.shelf.ghost_name ≡ before.shelf.ghost_name

abbrev pub Made : {X : Type 0} → Meaning → List Step → Result X PlanFault → Meaning → Type 0
Made = Ended OfFault
