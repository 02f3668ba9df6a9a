-- The meaning of a diagram shelf, and what hanging a chart on it leaves. Assumes nothing.
use Rattle.std.specs.Prelude.{◌≡◌, ℕ, true, false, List, length, Some, Ok, Err, Option, Result, nat_lt, slice_set}
use Rattle.nodes.specs.declared.edge.Edge.{Edge}
use Rattle.model.specs.Charts.{Chart}
use Rattle.model.specs.Shelves.{Meaning, with_pegs, diagram_fill}
use Rattle.shelf.specs.declared.fault.ShelfFault.{ShelfFault}
use Rattle.shelf.specs.declared.fault.ShelfFault.TheVariants.{NoRoom}
use Rattle.build.specs.Grew.{nodes_in, shape_in}
use Rattle.build.specs.declared.node_store.NodeStore.{NodeStore}
use Rattle.pegs.specs.Held.{pegs_in}
use Rattle.diagram.specs.declared.diagram_shelf.DiagramShelf.{DiagramShelf}

-- the capacity is the number of node slots, and the fill the number of different parts
abbrev pub meaning_of : NodeStore → List (Option Edge) → Meaning
meaning_of store pegs = record {
  shape = shape_in store;
  capacity = length (nodes_in store);
  fill = diagram_fill (shape_in store);
  pegs = pegs_in store pegs;
}

abbrev pub means : DiagramShelf → Meaning
means s = meaning_of s.charts.diagrams.store s.charts.pegs

-- a chart is hung where there is room for it, and else nothing changes
abbrev pub Hung : Meaning → Meaning → ℕ → Chart → Result (Unit {0}) ShelfFault → Type 0
Hung m n t c (Ok u) = (nat_lt m.capacity (m.fill m.pegs c) ≡ false) × (n ≡ with_pegs m (slice_set m.pegs t (Some c)))
Hung m n t c (Err e) = (e ≡ NoRoom) × (nat_lt m.capacity (m.fill m.pegs c) ≡ true) × (n ≡ m)
