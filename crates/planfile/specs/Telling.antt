-- What is told of a plan. Assumes nothing.
use Rattle.std.specs.Prelude.{◌≡◌, ℕ, List, [], ◌∷◌, take, vec_items, Some, None, Ok, Err, Result, Vec}
use Rattle.std.specs.declared.alloc.Global.{Global}
use Rattle.model.specs.Contents.{Contents}
use Rattle.model.specs.Calls.{performs, performed}
use Rattle.model.specs.Shelves.{Meaning}
use Rattle.theory.specs.Performing.{Performs}
use Rattle.planner.specs.declared.answer.Plan as answer
use Rattle.planner.specs.declared.answer.Plan.TheVariants as plan
use Rattle.planner.specs.Plans.{Planned}
use Rattle.steps.specs.declared.fault.PlanFault.{PlanFault}
use Rattle.report.specs.declared.step.Step.{Step}
use Rattle.report.specs.declared.told.Told.{Told}
use Rattle.report.specs.declared.told.Told.TheVariants.{Way, NoWay}
use Rattle.show.specs.declared.cue.Cue.{Cue}
use Rattle.show.specs.declared.cue.Cue.TheVariants.{Add, Retime, Withdraw, Perform, Want, Plan}
use Rattle.show.specs.Shows.{Planning}
use Rattle.planfile.specs.declared.failure.Failure.{Failure}
use Rattle.planfile.specs.declared.failure.Failure.TheVariants.{NoMemory, Unplanned}

-- perform accepts these moves one after another
abbrev pub Runs : Contents → List ℕ → Type 0
Runs c is = (t : ℕ) × (d : Contents) × Performs c is t d

-- the steps are these moves, each with what perform answers when they are performed one after another from the contents
-- c, which leaves d
abbrev pub Timed : Contents → List ℕ → List Step → Contents → Type 0
Timed c [] [] d = d ≡ c
Timed c [] (x ∷ xs) d = ⊥
Timed c (i ∷ is) [] d = ⊥
Timed c (i ∷ is) (x ∷ xs) d = (x.number ≡ i) × (performs c i ≡ Ok x.time) × Timed (performed c i) is xs d

-- what is told of an answer to a plan: a way as its moves on the sheet with their times, no way, or why the plan was
-- sent back; or there was no memory for the steps
abbrev pub ToldOf : Contents → List ℕ → Result answer.Plan PlanFault → Result Told Failure → Type 0
ToldOf c sheet (Ok (plan.Way k t r)) (Ok (Way steps u s)) = (u ≡ t) × (s ≡ r) × ((d : Contents) × Timed c (take k sheet) (vec_items steps) d)
ToldOf c sheet (Ok (plan.Way k t r)) (Ok (NoWay s)) = ⊥
ToldOf c sheet (Ok (plan.Way k t r)) (Err e) = e ≡ NoMemory
ToldOf c sheet (Ok (plan.NoWay r)) told = told ≡ Ok (NoWay r)
ToldOf c sheet (Err fault) told = told ≡ Err (Unplanned fault)

module _ {S : Type 0} where
  -- a plan was made of the contents c by this cue
  abbrev pub Made : (S → Meaning) → Contents → Cue S → Type 0
  Made meaning c cue = (shelf : S) × (sheet : Vec ℕ Global) × Planning meaning c shelf sheet cue

  -- what is told of the plan of a cue
  abbrev pub ToldOfCue : Contents → Cue S → Result Told Failure → Type 0
  ToldOfCue c (Plan shelf sheet (Some answer)) told = ToldOf c (vec_items sheet) answer told
  ToldOfCue c (Plan shelf sheet None) told = ⊥
  ToldOfCue c (Add n draft reply) told = ⊥
  ToldOfCue c (Retime n base charges reply) told = ⊥
  ToldOfCue c (Withdraw n reply) told = ⊥
  ToldOfCue c (Perform n reply) told = ⊥
  ToldOfCue c (Want masks reply) told = ⊥

-- a rig with the contents c was planned on a shelf that meant m and a sheet of these bytes, and this is told of it
pub record Tells (c : Contents) (m : Meaning) (old : List ℕ) (told : Result Told Failure) : Type 0 where
  pub answer : Result answer.Plan PlanFault
  pub left : Meaning
  pub sheet : List ℕ
  pub planned : Planned c m old answer left sheet
  pub of_it : ToldOf c sheet answer told
