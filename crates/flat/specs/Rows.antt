-- What a flat shelf means: a row of cells for each peg. Assumes nothing.
use Rattle.std.specs.Prelude.{◌≡◌, ℕ, ◌*◌, Bool, false, cond, List, map, take, drop, Some, None, Option, slice_index_or}
use Rattle.std.specs.List.{range_with_len}
use Rattle.model.specs.Limits.{peg_count}
use Rattle.model.specs.Lists.{some}
use Rattle.model.specs.Scenes.{Shape, size}
use Rattle.model.specs.Charts.{Time, Chart, late}
use Rattle.model.specs.Shelves.{Meaning, chart_of, flat_fill}

-- the cells of peg p
abbrev pub row : List Time → ℕ → ℕ → Chart
row cells n p = take n (drop (p * n) cells)

-- what peg p carries
abbrev pub peg : Shape → List Time → List Bool → ℕ → Option Chart
peg ns cells hung p = cond (slice_index_or hung p false) (Some (row cells (size ns) p)) None

abbrev pub flat : Shape → List Time → List Bool → Meaning
flat ns cells hung = record { shape = ns; capacity = 0; fill = flat_fill; pegs = map (peg ns cells hung) (range_with_len 0 peg_count) }

-- no row that hangs has a late time
abbrev pub Timely : Shape → List Time → List Bool → Type 0
Timely ns cells hung = (p : ℕ) → some late (chart_of (peg ns cells hung p)) ≡ false
