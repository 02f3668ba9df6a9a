-- The meaning of a flat shelf, and a chart hung on it. Assumes nothing.
use Rattle.std.specs.Prelude.{ℕ, Some, vec_items, slice_set}
use Rattle.model.specs.Scenes.{size}
use Rattle.model.specs.Charts.{Chart}
use Rattle.model.specs.Shelves.{Meaning, with_pegs}
use Rattle.shelf.specs.Shapes.{shape_of}
use Rattle.flat.specs.declared.store.FlatShelf.{FlatShelf}
use Rattle.flat.specs.Rows.{row, flat}

abbrev pub means : FlatShelf → Meaning
means s = flat (shape_of s.shape) (vec_items s.cells) s.hung

-- the row of a peg
abbrev pub row_of : FlatShelf → ℕ → Chart
row_of s p = row (vec_items s.cells) (size (shape_of s.shape)) p

-- what a shelf means once a chart is hung
abbrev pub hanging : Meaning → ℕ → Chart → Meaning
hanging m t c = with_pegs m (slice_set m.pegs t (Some c))
