-- What an operation on a store builds. Assumes nothing.
use Rattle.std.specs.Prelude.{◌≡◌, ℕ, ◌+◌, ◌-◌, ◌%◌, ◌<◌, ◌≤◌, false, List, [], map, length, take, drop, replicate, Some, None, Option, slice_index, slice_index_or}
use Rattle.std.specs.List.{AllByRecursion, range_with_len, flat_map}
use Rattle.table.specs.Tables.{Table, Kept}
use Rattle.nodes.specs.Hashes.{mixed}
use Rattle.nodes.specs.declared.edge.Edge.{Edge}
use Rattle.nodes.specs.declared.node.Node.{Node}
use Rattle.model.specs.Charts.{Time, Chart, plus, late}
use Rattle.model.specs.Lists.{some}
use Rattle.model.specs.Parts.{less, pieces}
use Rattle.model.specs.Scenes.{Shape, size}
use Rattle.store.specs.Stores.{none_edge, lowest, highest, chart, Fine, Store}
use Rattle.store.specs.Fillings.{Grown, Stuck}

abbrev pub raised : Time → Edge → Edge
raised w e = record { weight = plus w e.weight; child = e.child }

abbrev pub lower_by : Time → Edge → Edge
lower_by m e = record { weight = less m e.weight; child = e.child }

-- the normalised node with these edges
abbrev pub wanted : List (Option Node) → Shape → ℕ → List Edge → Node
wanted nodes ns level kids = record { level = level; most = highest nodes ns (map (lower_by (lowest kids)) kids); edges = map (lower_by (lowest kids)) kids }

-- the unique table
abbrev pub NodeTable : List (Option Node) → Type 0
NodeTable = Table (λ (x y : Node). x ≡ y) (λ (x : Node) (n : ℕ). mixed x.level x.edges % n)

-- what an operation may start from
pub record Ready (nodes : List (Option Node)) (shape : Shape) : Type 0 where
  pub table : NodeTable nodes
  pub store : Store nodes shape
  pub small : length nodes ≤ 65536
  pub some : (k : ℕ) → k < length shape → 1 ≤ slice_index shape k
  pub few : (k : ℕ) → slice_index shape k ≤ 8
  pub short : length shape ≤ 12

-- the edges of a node to be made: fine as far as the device has settings, and no more
pub record Kids (nodes : List (Option Node)) (n : ℕ) (ns : Shape) (l : ℕ) (kids : List Edge) : Type 0 where
  pub eight : length kids ≡ 8
  pub fine : AllByRecursion (Fine nodes ns (l + 1)) (take n kids)
  pub rest : drop n kids ≡ replicate (8 - n) none_edge

-- the store has grown by parts of a chart only
pub record Grows (old new : List (Option Node)) (shape : Shape) (l : ℕ) (c : Chart) : Type 0 where
  pub table : NodeTable new
  pub store : Store new shape
  pub kept : Kept old new
  pub grown : Grown old new shape l c
  pub same : length new ≡ length old

-- an edge with the chart
abbrev pub Stands : List (Option Node) → Shape → ℕ → Chart → Edge → Type 0
Stands new shape l c e = Fine new (drop l shape) l e × (chart new (drop l shape) e ≡ c)

-- an edge with the chart, or no room
abbrev pub Built : List (Option Node) → Shape → ℕ → Chart → Option Edge → Type 0
Built new shape l c None = Stuck new shape l c
Built new shape l c (Some e) = Stands new shape l c e

-- the chart put together of those of the kids
abbrev pub together : List (Option Node) → Shape → ℕ → List Edge → Chart
together nodes shape l kids = flat_map (chart nodes (drop (l + 1) shape)) (take (slice_index shape l) kids)

-- the same chart at each setting of the device
abbrev pub spread_chart : Shape → ℕ → Chart → Chart
spread_chart shape l c = flat_map (λ _. c) (range_with_len 0 (slice_index shape l))

-- the chart of the kid at each setting of the device
abbrev pub throughout : List (Option Node) → Shape → ℕ → Edge → Chart
throughout nodes shape l kid = spread_chart shape l (chart nodes (drop (l + 1) shape) kid)

-- a node may be made of these edges: its level has a device, they are its kids, and no time of theirs is late
pub record Makeable (nodes : List (Option Node)) (shape : Shape) (l : ℕ) (edges : List Edge) : Type 0 where
  pub depth : l < length shape
  pub kids : Kids nodes (slice_index shape l) (drop (l + 1) shape) l edges
  pub timely : some late (together nodes shape l edges) ≡ false

-- an edge of a level is legal: it is fine there, and no time of its chart is late
pub record Legal (nodes : List (Option Node)) (shape : Shape) (l : ℕ) (e : Edge) : Type 0 where
  pub fine : Fine nodes (drop l shape) l e
  pub timely : some late (chart nodes (drop l shape) e) ≡ false

-- an edge may be spread: the level has a device, and the edge is legal below it
pub record Spreadable (nodes : List (Option Node)) (shape : Shape) (l : ℕ) (kid : Edge) : Type 0 where
  pub depth : l < length shape
  pub legal : Legal nodes shape (l + 1) kid

-- the store has grown by parts of the chart only, and the answer is an edge with it, or there was no room
pub record Made (old new : List (Option Node)) (shape : Shape) (l : ℕ) (c : Chart) (e : Option Edge) : Type 0 where
  pub grows : Grows old new shape l c
  pub built : Built new shape l c e

-- the piece of a chart at a setting of the device
abbrev pub piece : Shape → ℕ → Chart → ℕ → Chart
piece shape l c i = slice_index_or (pieces (slice_index shape l) (size (drop (l + 1) shape)) c) i []

-- the first i kids of a node for a chart stand
pub record Partway (old mid : List (Option Node)) (shape : Shape) (l : ℕ) (c : Chart) (i : ℕ) (kids : List Edge) : Type 0 where
  pub grows : Grows old mid shape l c
  pub eight : length kids ≡ 8
  pub rest : (k : ℕ) → i ≤ k → slice_index_or kids k none_edge ≡ none_edge
  pub done : (k : ℕ) → k < i → Fine mid (drop (l + 1) shape) (l + 1) (slice_index_or kids k none_edge) × (chart mid (drop (l + 1) shape) (slice_index_or kids k none_edge) ≡ piece shape l c k)
