-- Runs of accepted performs, in the words of the calls. Assumes nothing.
use Rattle.std.specs.Prelude.{◌≡◌, ℕ, ◌+◌, true, ◌↔◌, List, [], ◌∷◌, Ok}
use Rattle.model.specs.Masks.{wanted}
use Rattle.model.specs.Contents.{Contents, with_scene}
use Rattle.model.specs.Calls.{performs, performed, Lawful}
use Rattle.theory.specs.Actions.{Run}
use Rattle.theory.specs.Tables.{table_of}

-- perform accepts these numbers one after another from the contents c, leaves d, and its answers sum up to t
abbrev pub Performs : Contents → List ℕ → ℕ → Contents → Type 0
Performs c [] t d = (t ≡ 0) × (d ≡ c)
Performs c (i ∷ is) t d = (u : ℕ) × (performs c i ≡ Ok u) × (w : ℕ) × Performs (performed c i) is w d × (t ≡ u + w)

-- and leads to a wanted scene
abbrev pub Way : Contents → List ℕ → ℕ → Type 0
Way c is t = (d : Contents) × Performs c is t d × (wanted d.masks d.scene ≡ true)

-- which is exactly a run of the transition system that the moves make, from the present scene to the wanted ones
abbrev pub WaysAreRuns : Type 0
WaysAreRuns = (c : Contents) (is : List ℕ) (t : ℕ) → Way c is t ↔ Run (table_of c.slots) (wanted c.masks) is c.scene t

-- performs change the scene alone, and leave lawful contents lawful
pub record Performed (c d : Contents) : Type 0 where
  pub scene_alone : d ≡ with_scene c d.scene
  pub lawful : Lawful c → Lawful d

abbrev pub PerformsKeep : Type 0
PerformsKeep = (c : Contents) (is : List ℕ) (t : ℕ) (d : Contents) → Performs c is t d → Performed c d
