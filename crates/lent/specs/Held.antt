-- Pegs that carry edges into lent slots, and what a sweep leaves. Assumes nothing.
use Rattle.std.specs.Prelude.{◌≡◌, List, Some, None, Option}
use Rattle.std.specs.List.{AllByRecursion}
use Rattle.nodes.specs.declared.edge.Edge.{Edge}
use Rattle.nodes.specs.declared.node.Node.{Node}
use Rattle.model.specs.Scenes.{Shape}
use Rattle.model.specs.Shelves.{charts}
use Rattle.store.specs.Stores.{chart}
use Rattle.store.specs.Fillings.{Owned}
use Rattle.build.specs.Builds.{Ready, Made}
use Rattle.pegs.specs.Held.{pegs_of, peg_fine}

-- the slots are such that an operation may start, and each peg is bare, or carries a fine edge without late times
pub record Held (nodes : List (Option Node)) (shape : Shape) (pegs : List (Option Edge)) : Type 0 where
  pub ready : Ready nodes shape
  pub fine : AllByRecursion (peg_fine nodes shape) pegs

-- the same charts in other slots, which have no more than their parts
pub record Collected (source spare : List (Option Node)) (shape : Shape) (old pegs : List (Option Edge)) : Type 0 where
  pub held : Held spare shape pegs
  pub same : pegs_of spare shape pegs ≡ pegs_of source shape old
  pub owned : Owned spare shape (charts (pegs_of source shape old))

-- what a peg carries is copied, or there was no room
abbrev pub CopiesPeg : List (Option Node) → List (Option Node) → List (Option Node) → Shape → Option Edge → Option Edge → Type 0
CopiesPeg source old new shape None r = (new ≡ old) × (r ≡ None)
CopiesPeg source old new shape (Some e) r = Made old new shape 0 (chart source shape e) r
