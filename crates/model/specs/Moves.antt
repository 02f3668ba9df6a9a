-- Moves (the actions of planning), what they ask, do and take. Assumes nothing.
use Rattle.std.specs.Prelude.{◌≡◌, ℕ, ◌+◌, ◌<◌, Bool, true, false, cond, List, [], ◌∷◌, length, ◌==◌, ◌≢◌, nat_lt, slice_index, slice_set}
use Rattle.model.specs.Lists.{In, total, every}
use Rattle.model.specs.Scenes.{Scene}

-- a device and one of its settings
pub record Pair : Type 0 where
  pub device : ℕ
  pub setting : ℕ

-- an extra time where the tests all hold
pub record Surcharge : Type 0 where
  pub tests : List Pair
  pub extra : ℕ

pub record Move : Type 0 where
  pub conditions : List Pair
  pub effects : List Pair
  pub base : ℕ
  pub surcharges : List Surcharge

-- a pair holds in a scene with that setting
abbrev pub holds : Scene → Pair → Bool
holds s p = cond (nat_lt p.device (length s)) (slice_index s p.device == p.setting) false

abbrev pub all_hold : Scene → List Pair → Bool
all_hold s = every (holds s)

-- what a surcharge takes in a scene
abbrev pub charged : Scene → Surcharge → ℕ
charged s x = cond (all_hold s x.tests) x.extra 0

-- the time of a move in the scene before it
abbrev pub time : Move → Scene → ℕ
time m s = m.base + total (charged s) m.surcharges

-- each effect sets its device, in order
abbrev pub applied : List Pair → Scene → Scene
applied [] s = s
applied (p ∷ ps) s = applied ps (slice_set s p.device p.setting)

-- planning with state-dependent action costs, device by device: the successor t of the state s gives each
-- variable its effect where one is defined, and its old value elsewhere
pub record Successor (es : List Pair) (s t : Scene) : Type 0 where
  pub devices : length t ≡ length s
  pub given : (p : Pair) → In p es → p.device < length s → slice_index t p.device ≡ p.setting
  pub kept : (v : ℕ) → ((p : Pair) → In p es → p.device ≢ v) → slice_index t v ≡ slice_index s v

-- a move taken in the state s leads to t at a cost: every precondition holds in s, and the cost is that of s
pub record Transition (m : Move) (s : Scene) (cost : ℕ) (t : Scene) : Type 0 where
  pub applicable : (p : Pair) → In p m.conditions → holds s p ≡ true
  pub successor : Successor m.effects s t
  pub paid : cost ≡ time m s
