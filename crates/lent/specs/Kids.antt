-- The kids of a node that is built in lent slots. Assumes nothing.
use Rattle.std.specs.Prelude.{ℕ, List, Some, None, Option, slice_index}
use Rattle.nodes.specs.declared.edge.Edge.{Edge}
use Rattle.nodes.specs.declared.node.Node.{Node}
use Rattle.model.specs.Charts.{Chart}
use Rattle.model.specs.Scenes.{Shape}
use Rattle.store.specs.Fillings.{Stuck}
use Rattle.build.specs.Builds.{Grows, Partway}

-- all kids of a node for a chart stand, or there was no room
abbrev pub KidsBuilt : List (Option Node) → List (Option Node) → Shape → ℕ → Chart → Option (List Edge) → Type 0
KidsBuilt old new shape l c None = Grows old new shape l c × Stuck new shape l c
KidsBuilt old new shape l c (Some kids) = Partway old new shape l c (slice_index shape l) kids
