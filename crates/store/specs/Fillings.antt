-- The parts that the nodes of a store stand for, and when there is no room. Assumes nothing.
use Rattle.std.specs.Prelude.{◌≡◌, ℕ, ◌<◌, ◌≤◌, ◌⊎◌, List, map, length, drop, Some, Option, ◌≢◌}
use Rattle.std.specs.List.{AllByRecursion, flat_map}
use Rattle.table.specs.Tables.{slot, Kept, Occupied}
use Rattle.nodes.specs.declared.edge.Edge.{Edge}
use Rattle.nodes.specs.declared.node.Node.{Node}
use Rattle.model.specs.Charts.{Chart}
use Rattle.model.specs.Lists.{In}
use Rattle.model.specs.Parts.{Part, parts, parts_of_all}
use Rattle.model.specs.Scenes.{Shape}
use Rattle.store.specs.Stores.{node_at, chart, body, Fine, Store}

-- the part that a node stands for
abbrev pub name_of : List (Option Node) → Shape → Node → Part
name_of nodes shape x = record { fixed = x.level; chart = body nodes (drop x.level shape) x }

abbrev pub name : List (Option Node) → Shape → ℕ → Part
name nodes shape k = name_of nodes shape (node_at nodes k)

-- what is new in a store are parts of a chart of the devices from l on
abbrev pub Grown : List (Option Node) → List (Option Node) → Shape → ℕ → Chart → Type 0
Grown old new shape l c = (k : ℕ) (x : Node) → slot new k ≡ Some x → (slot old k ≡ Some x) ⊎ In (name new shape k) (parts (drop l shape) l c)

-- every slot is taken, and a part of a chart has none
pub record Stuck (nodes : List (Option Node)) (shape : Shape) (l : ℕ) (c : Chart) : Type 0 where
  pub taken : Occupied nodes
  pub part : Part
  pub within : In part (parts (drop l shape) l c)
  pub away : (k : ℕ) → k < length nodes → part ≢ name nodes shape k

-- all nodes of a store are parts of some charts
abbrev pub Owned : List (Option Node) → Shape → List Chart → Type 0
Owned nodes shape charts = (k : ℕ) (x : Node) → slot nodes k ≡ Some x → In (name nodes shape k) (flat_map (parts shape 0) charts)

-- in a store an edge is known by its chart
abbrev pub Canonical : Type 0
Canonical = (nodes : List (Option Node)) (shape : Shape) → Store nodes shape → (e f : Edge) → Fine nodes shape 0 e → Fine nodes shape 0 f → chart nodes shape e ≡ chart nodes shape f → e ≡ f

-- the charts of a store's edges have no more different parts than the store has slots
abbrev pub Roomy : Type 0
Roomy = (nodes : List (Option Node)) (shape : Shape) → Store nodes shape → (edges : List Edge) → AllByRecursion (Fine nodes shape 0) edges → parts_of_all shape (map (chart nodes shape) edges) ≤ length nodes

-- a store of parts of some charts, grown by parts of one more until none was free and one had no slot: there are more different parts than slots
abbrev pub Overfull : Type 0
Overfull = (old new : List (Option Node)) (shape : Shape) → Store old shape → Store new shape → Kept old new → (charts : List Chart) (c : Chart) → In c charts → Owned old shape charts → Grown old new shape 0 c → Stuck new shape 0 c → length new < parts_of_all shape charts
