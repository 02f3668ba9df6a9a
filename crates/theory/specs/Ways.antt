-- Quickest runs of accepted performs, and where they come from. Assumes nothing.
use Rattle.std.specs.Prelude.{◌≡◌, ℕ, ◌≤◌, ◌⊎◌, ◌↔◌, List, Some, None}
use Rattle.model.specs.Scenes.{Scene}
use Rattle.model.specs.Charts.{Time}
use Rattle.model.specs.Masks.{wanted}
use Rattle.model.specs.Contents.{Contents}
use Rattle.model.specs.Calls.{Lawful}
use Rattle.theory.specs.Iteration.{Right}
use Rattle.theory.specs.Walks.{Smaller, Greedy}
use Rattle.theory.specs.Tables.{table_of}
use Rattle.theory.specs.Performing.{Way}

-- these numbers are a way that takes the time t; no way takes less; and of the other ways that take t each has the greater number where it first differs
pub record Best (c : Contents) (is : List ℕ) (t : ℕ) : Type 0 where
  pub way : Way c is t
  pub least : (js : List ℕ) (u : ℕ) → Way c js u → t ≤ u
  pub first : (js : List ℕ) → Way c js t → (is ≡ js) ⊎ Smaller is js

-- v has, from each scene, the least time of all runs of the rig's moves to a wanted scene
abbrev pub RightFor : Contents → (Scene → Time) → Type 0
RightFor c v = Right c.settings (table_of c.slots) (wanted c.masks) v

-- by such times the greedy walk from the present scene is the best way
abbrev pub WalksBest : Type 0
WalksBest =
    (c : Contents) → Lawful c → (v : Scene → Time) → RightFor c v → (t : ℕ) → v c.scene ≡ Some t →
    (is : List ℕ) → Greedy (table_of c.slots) v is c.scene → Best c is t

-- and never stands at the present scene exactly where there is no way
abbrev pub NeverNone : Type 0
NeverNone =
    (c : Contents) → Lawful c → (v : Scene → Time) → RightFor c v → (v c.scene ≡ None) ↔ ((is : List ℕ) (t : ℕ) → Way c is t → ⊥)
