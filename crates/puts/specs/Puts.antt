-- The chart that putting a pair is to give. Assumes nothing.
use Rattle.std.specs.Prelude.{ℕ, ◌-◌, List, drop, Some, Option}
use Rattle.nodes.specs.declared.edge.Edge.{Edge}
use Rattle.nodes.specs.declared.node.Node.{Node}
use Rattle.model.specs.Charts.{Chart, put_chart}
use Rattle.model.specs.Scenes.{Shape}
use Rattle.store.specs.Stores.{chart}

-- over the devices from l on
abbrev pub goal : List (Option Node) → Shape → ℕ → ℕ → ℕ → Edge → Chart
goal nodes shape l v d e = put_chart (drop l shape) (v - l) d (chart nodes (drop l shape) e)

-- the edge to a node at 0
abbrev pub at_zero : ℕ → Edge
at_zero k = record { weight = Some 0; child = k }
