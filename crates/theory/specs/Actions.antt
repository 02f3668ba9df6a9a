-- A transition system on scenes: numbered actions that cost time, and its runs to a goal. Assumes nothing.
use Rattle.std.specs.Prelude.{◌≡◌, ℕ, ◌+◌, ◌≤◌, Bool, true, List, [], ◌∷◌, Some, None, Option, slice_index_or}
use Rattle.model.specs.Limits.{most_tenths}
use Rattle.model.specs.Scenes.{Shape, Scene, SceneOf}

-- where it may be taken, the scene that it leads to, and what it costs in the scene before it
pub record Action : Type 0 where
  pub applicable : Scene → Bool
  pub next : Scene → Scene
  pub cost : Scene → ℕ

-- an action's number is its place; not every number has one
abbrev pub Table : Type 0
Table = List (Option Action)

-- the action with a number, if there is one
abbrev pub numbered : Table → ℕ → Option Action
numbered acts i = slice_index_or acts i None

-- an action leads from scenes of the shape to scenes of the shape, and costs from 1 to the limit of a move
pub record LawfulAction (ns : Shape) (a : Action) : Type 0 where
  pub keeps : (s : Scene) → SceneOf ns s → a.applicable s ≡ true → SceneOf ns (a.next s)
  pub some : (s : Scene) → SceneOf ns s → 1 ≤ a.cost s
  pub most : (s : Scene) → SceneOf ns s → a.cost s ≤ most_tenths

abbrev pub LawfulTable : Shape → Table → Type 0
LawfulTable ns acts = (i : ℕ) (a : Action) → numbered acts i ≡ Some a → LawfulAction ns a

-- a run: the actions with these numbers, taken one after another from s, end in a goal scene and cost t in all
abbrev pub Run : Table → (Scene → Bool) → List ℕ → Scene → ℕ → Type 0
Run acts goal [] s t = (goal s ≡ true) × (t ≡ 0)
Run acts goal (i ∷ is) s t =
    (a : Action) × (numbered acts i ≡ Some a) × (a.applicable s ≡ true) × (u : ℕ) × Run acts goal is (a.next s) u × (t ≡ a.cost s + u)
