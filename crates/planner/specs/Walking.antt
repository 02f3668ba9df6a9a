-- The walk along a plan: places on it, and what is written of it. Assumes nothing.
use Rattle.std.specs.Prelude.{◌≡◌, ℕ, ◌<◌, false, List, [], ◌∷◌, length, Some, None, Option, ◌≢◌}
use Rattle.lists.specs.Shorts.{listed}
use Rattle.model.specs.Scenes.{Scene, SceneOf}
use Rattle.model.specs.Charts.{Time, at}
use Rattle.model.specs.Contents.{Contents}
use Rattle.model.specs.Calls.{Lawful}
use Rattle.model.specs.Shelves.{Meaning, on, bare}
use Rattle.theory.specs.Actions.{Action, numbered}
use Rattle.theory.specs.Iteration.{through}
use Rattle.theory.specs.Tables.{table_of}
use Rattle.theory.specs.Walks.{Greedy}
use Rattle.theory.specs.Ways.{RightFor, Best}
use Rattle.planner.specs.declared.point.Point.{Point}
use Rattle.planner.specs.declared.point.Stride.{Stride}

-- the time that peg 0 gives a scene
abbrev pub first_peg : Contents → Meaning → Scene → Time
first_peg c m = at c.settings (on m.pegs 0)

-- peg 0 has the least times of all runs to a wanted scene
pub record Ready (c : Contents) (m : Meaning) : Type 0 where
  pub lawful : Lawful c
  pub shape : m.shape ≡ c.settings
  pub hung : bare m.pegs 0 ≡ false
  pub right : RightFor c (first_peg c m)

-- a scene with the time that peg 0 gives it
pub record Stands (c : Contents) (m : Meaning) (p : Point) : Type 0 where
  pub within : SceneOf c.settings (listed p.scene)
  pub timed : first_peg c m (listed p.scene) ≡ Some p.left

-- from p the action, if there is one, loses no time and leads to q
pub record Leads (c : Contents) (m : Meaning) (p : Point) (o : Option Action) (q : Point) : Type 0 where
  pub action : Action
  pub there : o ≡ Some action
  pub keeps : through o (first_peg c m) (listed p.scene) ≡ Some p.left
  pub next : listed q.scene ≡ action.next (listed p.scene)
  pub stands : Stands c m q
  pub less : q.left < p.left

-- o is where the action leads, if it loses no time
abbrev pub Led : Contents → Meaning → Point → Option Action → Option Point → Type 0
Led c m p a None = through a (first_peg c m) (listed p.scene) ≡ Some p.left → ⊥
Led c m p a (Some q) = Leads c m p a q

-- o is the stride by the move of the number n, if it loses no time
abbrev pub Strode : Contents → Meaning → Point → ℕ → Option Stride → Type 0
Strode c m p n None = through (numbered (table_of c.slots) n) (first_peg c m) (listed p.scene) ≢ Some p.left
Strode c m p n (Some x) = (x.number ≡ n) × Leads c m p (numbered (table_of c.slots) n) x.end

-- the move of the smallest number that loses no time
pub record Strides (c : Contents) (m : Meaning) (p : Point) (x : Stride) : Type 0 where
  pub leads : Leads c m p (numbered (table_of c.slots) x.number) x.end
  pub smallest : (j : ℕ) → j < x.number → through (numbered (table_of c.slots) j) (first_peg c m) (listed p.scene) ≢ Some p.left

-- the numbers fill the front of a sheet as far as it goes; its further bytes are kept
abbrev pub written : List ℕ → List ℕ → List ℕ
written [] bytes = bytes
written (i ∷ is) [] = []
written (i ∷ is) (b ∷ bytes) = i ∷ written is bytes

-- the walk by the times of peg 0 has so many moves, and fills the sheet's front
pub record Taken (c : Contents) (m : Meaning) (old : List ℕ) (count : ℕ) (new : List ℕ) : Type 0 where
  pub moves : List ℕ
  pub greedy : Greedy (table_of c.slots) (first_peg c m) moves c.scene
  pub counted : count ≡ length moves
  pub filled : new ≡ written moves old

-- the best way has so many moves, and fills the sheet's front
pub record Walked (c : Contents) (time : ℕ) (old : List ℕ) (count : ℕ) (new : List ℕ) : Type 0 where
  pub moves : List ℕ
  pub best : Best c moves time
  pub counted : count ≡ length moves
  pub filled : new ≡ written moves old
