-- Pegs that carry edges into a store, and what a sweep leaves. Assumes nothing.
use Rattle.std.specs.Prelude.{◌≡◌, ℕ, false, List, map, length, take, drop, Some, None, Option}
use Rattle.std.specs.List.{AllByRecursion}
use Rattle.nodes.specs.declared.edge.Edge.{Edge}
use Rattle.nodes.specs.declared.node.Node.{Node}
use Rattle.model.specs.Charts.{Chart, late}
use Rattle.model.specs.Lists.{some}
use Rattle.model.specs.Scenes.{Shape}
use Rattle.model.specs.Shelves.{Pegs, charts}
use Rattle.store.specs.Stores.{chart, Fine}
use Rattle.store.specs.Fillings.{Owned}
use Rattle.build.specs.Builds.{Built}
use Rattle.build.specs.Grew.{nodes_in, shape_in, Grew}
use Rattle.build.specs.declared.node_store.NodeStore.{NodeStore}

abbrev pub peg_chart : List (Option Node) → Shape → Option Edge → Option Chart
peg_chart nodes shape None = None
peg_chart nodes shape (Some e) = Some (chart nodes shape e)

-- what each peg carries
abbrev pub pegs_of : List (Option Node) → Shape → List (Option Edge) → Pegs
pegs_of nodes shape pegs = map (peg_chart nodes shape) pegs

-- a peg is bare, or carries a fine edge without late times
abbrev pub peg_fine : List (Option Node) → Shape → Option Edge → Type 0
peg_fine nodes shape None = Unit {0}
peg_fine nodes shape (Some e) = Fine nodes shape 0 e × (some late (chart nodes shape e) ≡ false)

-- two stores over one shape, with as many slots
pub record Alike (a b : NodeStore) : Type 0 where
  pub shape : shape_in a ≡ shape_in b
  pub size : length (nodes_in b) ≡ length (nodes_in a)

-- what the pegs of a store carry
abbrev pub pegs_in : NodeStore → List (Option Edge) → Pegs
pegs_in store pegs = pegs_of (nodes_in store) (shape_in store) pegs

-- each peg is bare, or carries a fine edge without late times
pub record Held (store : NodeStore) (pegs : List (Option Edge)) : Type 0 where
  pub fine : AllByRecursion (peg_fine (nodes_in store) (shape_in store)) pegs

-- the same charts in another store like it, which has no more than their parts
pub record Collected (source spare : NodeStore) (old pegs : List (Option Edge)) : Type 0 where
  pub alike : Alike source spare
  pub held : Held spare pegs
  pub same : pegs_in spare pegs ≡ pegs_in source old
  pub owned : Owned (nodes_in spare) (shape_in source) (charts (pegs_in source old))

-- what a peg carries is copied, or there was no room
abbrev pub CopiesPeg : List (Option Node) → NodeStore → NodeStore → Option Edge → Option Edge → Type 0
CopiesPeg source old new None r = (new ≡ old) × (r ≡ None)
CopiesPeg source old new (Some e) r = Grew old new 0 (chart source (shape_in old) e) × Built (nodes_in new) (shape_in old) 0 (chart source (shape_in old) e) r

-- the first i pegs are copied from the slots of one store to those of another like it
pub record Swept (source nodes : List (Option Node)) (shape : Shape) (old pegs : List (Option Edge)) (i : ℕ) : Type 0 where
  pub size : length nodes ≡ length source
  pub owned : Owned nodes shape (charts (pegs_of source shape old))
  pub fine : AllByRecursion (peg_fine nodes shape) (take i pegs)
  pub same : pegs_of nodes shape (take i pegs) ≡ pegs_of source shape (take i old)
  pub rest : drop i pegs ≡ drop i old
  pub long : length pegs ≡ length old
