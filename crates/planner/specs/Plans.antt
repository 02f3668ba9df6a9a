-- What a plan answers and leaves, in the words of runs. Assumes nothing.
use Rattle.std.specs.Prelude.{◌≡◌, ℕ, ◌<◌, ◌≤◌, ◌≢◌, ◌⊎◌, ◌↔◌, List, ◌++◌, length, drop, replicate, Some, None, Ok, Err, Option, Result}
use Rattle.model.specs.Contents.{Contents}
use Rattle.model.specs.Shelves.{Meaning, with_pegs}
use Rattle.theory.specs.Performing.{Way}
use Rattle.theory.specs.Ways.{Best}
use Rattle.rule.specs.Steps.{Step}
use Rattle.rule.specs.Running.{Fits, First}
use Rattle.rule.specs.Rule.{count, rule}
use Rattle.shelf.specs.declared.fault.ShelfFault.{ShelfFault}
use Rattle.shelf.specs.Faults as shelf
use Rattle.steps.specs.declared.hanging.Hanging.{Hanging}
use Rattle.planner.specs.declared.answer.Plan.{Plan}
use Rattle.planner.specs.declared.answer.Plan.TheVariants as plan
use Rattle.steps.specs.declared.fault.PlanFault.{PlanFault}
use Rattle.steps.specs.declared.fault.PlanFault.TheVariants.{ShapesDiffer, NoRoom, SheetShort}
use Rattle.steps.specs.Faults.{number, step_of}

-- a plan works on pegs 0 to 4
abbrev pub work_pegs : ℕ
work_pegs = 5

-- the shelf with those bare, the others as they are
abbrev pub cleared : Meaning → Meaning
cleared m = with_pegs m (replicate work_pegs None ++ drop work_pegs m.pegs)

-- there is no run of accepted performs to a wanted scene
abbrev pub NoWay : Contents → Type 0
NoWay c = (is : List ℕ) (t : ℕ) → Way c is t → ⊥

-- the best way takes the time t and has n moves, which fill the sheet's front; its further bytes are kept
pub record Filled (c : Contents) (n t : ℕ) (old new : List ℕ) : Type 0 where
  pub moves : List ℕ
  pub best : Best c moves t
  pub many : n ≡ length moves
  pub fits : n ≤ length old
  pub sheet : new ≡ moves ++ drop n old

-- the best way has n moves, and the sheet fewer bytes
pub record ShortFor (c : Contents) (n : ℕ) (old : List ℕ) : Type 0 where
  pub moves : List ℕ
  pub time : ℕ
  pub best : Best c moves time
  pub many : n ≡ length moves
  pub short : length old < n

-- what is found with a shelf of the rig's shape that has its pegs 0 to 4 bare
abbrev pub Found : Contents → Meaning → List ℕ → Result Plan PlanFault → List ℕ → Type 0
Found c m old (Ok (plan.Way n t r)) new = Fits m (rule c) × (r ≡ count c) × Filled c n t old new
Found c m old (Ok (plan.NoWay r)) new = Fits m (rule c) × (r ≡ count c) × NoWay c × (new ≡ old)
Found c m old (Err ShapesDiffer) new = ⊥
Found c m old (Err (NoRoom fault call round move)) new = (shelf.number fault ≡ 18) × First m (rule c) (step_of call round move) × (new ≡ old)
Found c m old (Err (SheetShort n)) new = Fits m (rule c) × ShortFor c n old × (new ≡ old)

-- what the best way, which takes the time t, is answered with
abbrev pub Fills : Contents → ℕ → ℕ → List ℕ → Result Plan PlanFault → List ℕ → Type 0
Fills c t r old (Ok (plan.Way n u s)) new = (u ≡ t) × (s ≡ r) × Filled c n t old new
Fills c t r old (Ok (plan.NoWay s)) new = ⊥
Fills c t r old (Err ShapesDiffer) new = ⊥
Fills c t r old (Err (NoRoom fault call round move)) new = ⊥
Fills c t r old (Err (SheetShort n)) new = ShortFor c n old × (new ≡ old)

-- The whole of it

-- the number of the refusal, where a plan is sent back
abbrev pub refusal : Result Plan PlanFault → Option ℕ
refusal (Ok _) = None
refusal (Err e) = Some (number e)

-- the answer, of a rig with the contents c, with a shelf that meant m and means n, and a sheet that had the bytes old
-- and has the bytes new
pub record Planned (c : Contents) (m : Meaning) (old : List ℕ) (answer : Result Plan PlanFault) (n : Meaning) (new : List ℕ) : Type 0 where
  -- on "way" the sheet's front has the best way, and its time is the time given
  pub way : (k t r : ℕ) → answer ≡ Ok (plan.Way k t r) → Filled c k t old new × (r ≡ count c)
  -- not sent back, it is "no way" exactly where there is none
  pub no_way : refusal answer ≡ None → ((r : ℕ) × (answer ≡ Ok (plan.NoWay r))) ↔ NoWay c
  pub rounds : (r : ℕ) → answer ≡ Ok (plan.NoWay r) → r ≡ count c
  -- it is sent back for its shape exactly where that differs
  pub shapes : (refusal answer ≡ Some 17) ↔ (m.shape ≢ c.settings)
  -- it is sent back with "no room" exactly where the rule overfills the shelf, with its pegs 0 to 4 bare
  pub room : (refusal answer ≡ Some 18) ↔ ((m.shape ≡ c.settings) × ((x : Step) × First (cleared m) (rule c) x))
  -- naming the fault of the shelf, the call, the round and the move of the first overfilling
  pub first : (fault : ShelfFault) (call : Hanging) (round : ℕ) (move : Option ℕ) → answer ≡ Err (NoRoom fault call round move) →
      (shelf.number fault ≡ 18) × First (cleared m) (rule c) (step_of call round move)
  -- it is sent back for its sheet exactly where nothing else stands against it and the best way has more moves than bytes
  pub sheet : (refusal answer ≡ Some 19) ↔ ((m.shape ≡ c.settings) × Fits (cleared m) (rule c) × ((k : ℕ) × ShortFor c k old))
  pub needed : (k : ℕ) → answer ≡ Err (SheetShort k) → ShortFor c k old
  -- there is no other refusal
  pub others : (k : ℕ) → refusal answer ≡ Some k → (k ≡ 17) ⊎ ((k ≡ 18) ⊎ (k ≡ 19))
  -- pegs 0 to 4 are left bare, unless shapes differ; the others are as they were
  pub pegs : refusal answer ≢ Some 17 → n ≡ cleared m
  pub untouched : refusal answer ≡ Some 17 → n ≡ m
  -- but for a way, the sheet is as it was
  pub kept : ((k t r : ℕ) → answer ≢ Ok (plan.Way k t r)) → new ≡ old
