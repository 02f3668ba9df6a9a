-- A store of nodes, and the charts that its edges stand for. Assumes nothing.
use Rattle.std.specs.Prelude.{◌≡◌, ℕ, ◌+◌, ◌-◌, true, List, [], ◌∷◌, length, take, drop, replicate, is_some, Some, None, Option}
use Rattle.std.specs.List.{AllByRecursion, flat_map}
use Rattle.table.specs.Tables.{slot, Apart}
use Rattle.nodes.specs.declared.edge.Edge.{Edge}
use Rattle.nodes.specs.declared.node.Node.{Node}
use Rattle.model.specs.Charts.{Time, Chart, plus, lesser, greater}
use Rattle.model.specs.Scenes.{Shape}
use Rattle.parts.specs.Shifts.{later, zeroed}

abbrev pub none_edge : Edge
none_edge = record { weight = None; child = 0 }

abbrev pub node_in : Option Node → Node
node_in None = record { level = 0; most = None; edges = replicate 8 none_edge }
node_in (Some x) = x

-- the node in a slot
abbrev pub node_at : List (Option Node) → ℕ → Node
node_at nodes k = node_in (slot nodes k)

-- the least weight
abbrev pub lowest : List Edge → Time
lowest [] = None
lowest (e ∷ es) = lesser e.weight (lowest es)

-- the chart of an edge, over the settings of the devices that remain: along the path of a scene, the sum of the weights
abbrev pub chart : List (Option Node) → Shape → Edge → Chart
chart nodes [] e = e.weight ∷ []
chart nodes (n ∷ ns) e = later e.weight (flat_map (chart nodes ns) (take n (node_at nodes e.child).edges))

-- the chart of a node
abbrev pub body : List (Option Node) → Shape → Node → Chart
body nodes [] x = []
body nodes (n ∷ ns) x = flat_map (chart nodes ns) (take n x.edges)

-- the greatest time below an edge, its weight apart
abbrev pub below : List (Option Node) → Shape → Edge → Time
below nodes [] e = Some 0
below nodes (n ∷ ns) e = (node_at nodes e.child).most

-- the greatest time of some edges
abbrev pub highest : List (Option Node) → Shape → List Edge → Time
highest nodes ns [] = None
highest nodes ns (e ∷ es) = greater (plus e.weight (below nodes ns e)) (highest nodes ns es)

-- an edge leads to a node of the level, and has a weight exactly where the node's chart has a time
pub record Leads (nodes : List (Option Node)) (n level : ℕ) (e : Edge) : Type 0 where
  pub here : is_some (slot nodes e.child) ≡ true
  pub deep : (node_at nodes e.child).level ≡ level
  pub low : zeroed e.weight ≡ lowest (take n (node_at nodes e.child).edges)

abbrev pub Fine : List (Option Node) → Shape → ℕ → Edge → Type 0
Fine nodes [] level e = e.child ≡ 0
Fine nodes (n ∷ ns) level e = Leads nodes n level e

-- a node as it may stand in a store: an edge for each setting, normalised, with the greatest time below it, its edges fine
pub record Formed (nodes : List (Option Node)) (n : ℕ) (ns : Shape) (x : Node) : Type 0 where
  pub wide : length (take n x.edges) ≡ n
  pub rest : drop n x.edges ≡ replicate (8 - n) none_edge
  pub low : zeroed (lowest (take n x.edges)) ≡ lowest (take n x.edges)
  pub high : x.most ≡ highest nodes ns (take n x.edges)
  pub kids : AllByRecursion (Fine nodes ns (x.level + 1)) (take n x.edges)

abbrev pub Proper : List (Option Node) → Shape → Node → Type 0
Proper nodes [] x = ⊥
Proper nodes (n ∷ ns) x = Formed nodes n ns x

-- no node twice, and each as it may stand
pub record Store (nodes : List (Option Node)) (shape : Shape) : Type 0 where
  pub apart : Apart (λ (x y : Node). x ≡ y) nodes
  pub proper : (k : ℕ) (x : Node) → slot nodes k ≡ Some x → Proper nodes (drop x.level shape) x
