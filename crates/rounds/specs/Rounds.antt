-- The rounds of the planning rule that are left after some, and steps on the shelf that a round holds. Assumes nothing.
use Rattle.std.specs.Prelude.{◌≡◌, ℕ, ◌+◌, ◌-◌, List, ◌++◌, Ok, Err, Result}
use Rattle.std.specs.List.{range_with_len, flat_map}
use Rattle.model.specs.Contents.{Contents}
use Rattle.model.specs.Shelves.{Meaning}
use Rattle.rule.specs.Steps.{Step, round, changing}
use Rattle.rule.specs.Rule.{count}
use Rattle.steps.specs.declared.fault.PlanFault.{PlanFault}
use Rattle.steps.specs.declared.round.Round.{Round}
use Rattle.steps.specs.Ends.{Made}

-- after n rounds, each of which made some scene cheaper
abbrev pub rounds_after : Contents → ℕ → List Step
rounds_after c n = flat_map (changing c.slots) (range_with_len (n + 1) (count c - n)) ++ round (count c + 1) c.slots

-- the answer is how many rounds make some scene cheaper
abbrev pub Counted : Contents → Result ℕ PlanFault → Type 0
Counted c (Ok n) = n ≡ count c
Counted c (Err e) = Unit {0}

-- steps on the shelf that a round holds, and goes on holding under its number
pub record Stepped {S : Type 0} (meaning : S → Meaning) (before : Round S) (xs : List Step) (r : Result (Unit {0}) PlanFault) (after : Round S) : Type 0 where
  pub made : Made (meaning before.shelf.now) xs r (meaning after.shelf.now)
  pub number : after.number ≡ before.number
  pub shelf : after.shelf.ghost_name ≡ before.shelf.ghost_name

-- steps of several rounds on that shelf, with the count of those that make some scene cheaper
pub record Followed {S : Type 0} (meaning : S → Meaning) (c : Contents) (before : Round S) (xs : List Step) (r : Result ℕ PlanFault) (after : Round S) : Type 0 where
  pub made : Made (meaning before.shelf.now) xs r (meaning after.shelf.now)
  pub counted : Counted c r
  pub shelf : after.shelf.ghost_name ≡ before.shelf.ghost_name
