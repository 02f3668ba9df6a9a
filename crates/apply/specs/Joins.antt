-- The chart that joining two edges is to give. Assumes nothing.
use Rattle.std.specs.Prelude.{◌≡◌, ℕ, false, List, drop, Some, None, Option, slice_index}
use Rattle.nodes.specs.declared.edge.Edge.{Edge}
use Rattle.nodes.specs.declared.node.Node.{Node}
use Rattle.nodes.specs.declared.remembered.Op.{Op}
use Rattle.model.specs.Charts.{Chart, zipped, late}
use Rattle.model.specs.Lists.{some}
use Rattle.model.specs.Scenes.{Shape}
use Rattle.store.specs.Stores.{chart}
use Rattle.store.specs.Fillings.{Stuck}
use Rattle.build.specs.Builds.{Legal}
use Rattle.build.specs.Grew.{nodes_in, shape_in, Grew, Begun}
use Rattle.build.specs.declared.node_store.NodeStore.{NodeStore}
use Rattle.memo.specs.Operations.{entry}

-- entry by entry, over the devices from l on
abbrev pub goal : Op → List (Option Node) → Shape → ℕ → Edge → Edge → Chart
goal op nodes shape l a b = zipped (entry op) (chart nodes (drop l shape) a) (chart nodes (drop l shape) b)

-- two edges that may be joined: each is legal, and no time of the result is late
pub record Joinable (op : Op) (nodes : List (Option Node)) (shape : Shape) (l : ℕ) (a b : Edge) : Type 0 where
  pub left : Legal nodes shape l a
  pub right : Legal nodes shape l b
  pub timely : some late (goal op nodes shape l a b) ≡ false

-- all kids of a node for a chart stand, or there was no room
abbrev pub KidsBuilt : NodeStore → NodeStore → ℕ → Chart → Option (List Edge) → Type 0
KidsBuilt old new l c None = Grew old new l c × Stuck (nodes_in new) (shape_in old) l c
KidsBuilt old new l c (Some kids) = Begun old new l c (slice_index (shape_in old) l) kids
