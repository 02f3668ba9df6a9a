-- The parts of a chart, and the fill of a diagram shelf: how many different parts some charts have. Assumes nothing.
use Rattle.std.specs.Prelude.{ℕ, zero, suc, ◌+◌, ◌-◌, Bool, cond, ◌&&◌, List, [], ◌∷◌, map, take, drop, Some, None, ◌==◌}
use Rattle.std.specs.List.{flat_map}
use Rattle.model.specs.Lists.{some}
use Rattle.model.specs.Scenes.{Shape, size}
use Rattle.model.specs.Charts.{Time, Chart, lesser, same_chart}

-- the least time, if there is one
abbrev pub least : Chart → Time
least [] = None
least (x ∷ xs) = lesser x (least xs)

-- an entry less a time, where there is one
abbrev pub less : Time → Time → Time
less None y = y
less (Some x) None = None
less (Some x) (Some y) = Some (y - x)

-- the least time subtracted, if any time is left
abbrev pub lowered : Chart → Chart
lowered c = map (less (least c)) c

-- a chart cut into n pieces of a size: the first remaining device at each of its settings
abbrev pub pieces : ℕ → ℕ → Chart → List Chart
pieces zero each c = []
pieces (suc n) each c = take each c ∷ pieces n each (drop each c)

-- a chart of the devices that remain once the first k are set, with the least time subtracted
pub record Part : Type 0 where
  pub fixed : ℕ
  pub chart : Chart

abbrev pub same_part : Part → Part → Bool
same_part p q = p.fixed == q.fixed && same_chart p.chart q.chart

-- the parts of a chart of the devices that remain, k being set
abbrev pub parts : Shape → ℕ → Chart → List Part
parts [] k c = []
parts (n ∷ ns) k c = record { fixed = k; chart = lowered c } ∷ flat_map (parts ns (k + 1)) (pieces n (size ns) c)

-- how many different elements a list has, by a test of sameness
abbrev pub different : {X : Type 0} → (X → X → Bool) → List X → ℕ
different same [] = 0
different same (x ∷ xs) = cond (some (same x) xs) (different same xs) (different same xs + 1)

abbrev pub parts_of_all : Shape → List Chart → ℕ
parts_of_all ns cs = different same_part (flat_map (parts ns 0) cs)
