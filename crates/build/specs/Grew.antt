-- What is in a store of nodes, and how it grows. Assumes nothing.
use Rattle.std.specs.Prelude.{◌≡◌, ℕ, List, Option, vec_items}
use Rattle.nodes.specs.declared.edge.Edge.{Edge}
use Rattle.nodes.specs.declared.node.Node.{Node}
use Rattle.model.specs.Charts.{Chart}
use Rattle.model.specs.Scenes.{Shape}
use Rattle.lists.specs.Shorts.{listed}
use Rattle.build.specs.Builds.{Grows, Built, Partway}
use Rattle.build.specs.declared.node_store.NodeStore.{NodeStore}

-- what the slots hold
abbrev pub nodes_in : NodeStore → List (Option Node)
nodes_in s = vec_items s.nodes

-- the shape of the charts
abbrev pub shape_in : NodeStore → Shape
shape_in s = listed s.settings

-- the store is over the same shape, and has grown by parts of a chart only
pub record Grew (old new : NodeStore) (l : ℕ) (c : Chart) : Type 0 where
  pub same : shape_in new ≡ shape_in old
  pub grows : Grows (nodes_in old) (nodes_in new) (shape_in old) l c

-- the store has grown so, and the answer is an edge with the chart, or there was no room
pub record MadeIn (old new : NodeStore) (l : ℕ) (c : Chart) (e : Option Edge) : Type 0 where
  pub grew : Grew old new l c
  pub built : Built (nodes_in new) (shape_in old) l c e

-- the first i kids of a node for a chart stand
pub record Begun (old mid : NodeStore) (l : ℕ) (c : Chart) (i : ℕ) (kids : List Edge) : Type 0 where
  pub same : shape_in mid ≡ shape_in old
  pub way : Partway (nodes_in old) (nodes_in mid) (shape_in old) l c i kids
