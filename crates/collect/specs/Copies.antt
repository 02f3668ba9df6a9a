-- What has been copied from one store to another. Assumes nothing.
use Rattle.std.specs.Prelude.{◌≡◌, ℕ, ◌<◌, ◌⊎◌, List, length, drop, Some, Option}
use Rattle.table.specs.Tables.{slot}
use Rattle.nodes.specs.declared.edge.Edge.{Edge}
use Rattle.nodes.specs.declared.node.Node.{Node}
use Rattle.model.specs.Scenes.{Shape}
use Rattle.store.specs.Stores.{chart, Fine}
use Rattle.build.specs.Builds.{Stands}

-- what was noted, and that slot i was copied to slot j
abbrev pub Noted : List (Option ℕ) → List (Option ℕ) → ℕ → ℕ → Type 0
Noted old new i j = (k m : ℕ) → slot new k ≡ Some m → (slot old k ≡ Some m) ⊎ ((k ≡ i) × (m ≡ j))

-- the node in slot k of the source stands in slot j: an edge to the one has the chart of the same edge to the other
abbrev pub Copied : List (Option Node) → List (Option Node) → Shape → ℕ → ℕ → Type 0
Copied source nodes shape k j = (l : ℕ) (e : Edge) → l < length shape → e.child ≡ k → Fine source (drop l shape) l e → Stands nodes shape l (chart source (drop l shape) e) (record { weight = e.weight; child = j })

-- every note is right
abbrev pub Moved : List (Option Node) → List (Option Node) → Shape → List (Option ℕ) → Type 0
Moved source nodes shape moved = (k j : ℕ) → slot moved k ≡ Some j → Copied source nodes shape k j
