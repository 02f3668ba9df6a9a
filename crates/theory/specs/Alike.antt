-- Contents that are alike in their moves, their scene and their masks have the same ways. Assumes nothing.
use Rattle.std.specs.Prelude.{◌≡◌, ℕ, List}
use Rattle.model.specs.Contents.{Contents, slot}
use Rattle.theory.specs.Performing.{Way}
use Rattle.theory.specs.Ways.{Best}

-- the same move under each number, whatever the number of slots, the names and the settings counts
pub record Alike (c d : Contents) : Type 0 where
  pub moves : (k : ℕ) → slot c k ≡ slot d k
  pub same_scene : c.scene ≡ d.scene
  pub same_masks : c.masks ≡ d.masks

abbrev pub WaysAlike : Type 0
WaysAlike = (c d : Contents) → Alike c d → (is : List ℕ) (t : ℕ) → Way c is t → Way d is t

-- so there is one best way, and one least time
abbrev pub BestAlike : Type 0
BestAlike = (c d : Contents) → Alike c d → (is js : List ℕ) (t u : ℕ) → Best c is t → Best d js u → (is ≡ js) × (t ≡ u)
