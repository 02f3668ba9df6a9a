-- What the pegs of a diagram shelf carry, by number. Assumes nothing.
use Rattle.std.specs.Prelude.{◌≡◌, ℕ, ◌<◌, Bool, List, map, is_some, Some, None, Option, slice_index_or}
use Rattle.nodes.specs.declared.edge.Edge.{Edge}
use Rattle.model.specs.Limits.{peg_count}

-- whether a chart hangs on each peg
abbrev pub hung_in : List (Option Edge) → List Bool
hung_in pegs = map is_some pegs

-- the peg of the number carries the edge
abbrev pub Carries : List (Option Edge) → ℕ → Edge → Type 0
Carries pegs number e = (number < peg_count) × (slice_index_or pegs number None ≡ Some e)
