-- Remembered results, and what makes them right. Assumes nothing.
use Rattle.std.specs.Prelude.{◌≡◌, ℕ, ◌<◌, ◌⊎◌, List, length, drop, Some, Option}
use Rattle.table.specs.Tables.{slot, Table}
use Rattle.nodes.specs.Keys.{SameKey, initial_of}
use Rattle.nodes.specs.declared.edge.Edge.{Edge}
use Rattle.nodes.specs.declared.node.Node.{Node}
use Rattle.nodes.specs.declared.remembered.Key.{Key}
use Rattle.nodes.specs.declared.remembered.Remembered.{Remembered}
use Rattle.model.specs.Scenes.{Shape}
use Rattle.store.specs.Stores.{chart, Fine}
use Rattle.build.specs.Builds.{Stands}
use Rattle.memo.specs.Operations.{result_chart}

-- no entry has the key
abbrev pub Unknown : List (Option Remembered) → Key → Type 0
Unknown memo key = (k : ℕ) (x : Remembered) → k < length memo → slot memo k ≡ Some x → x.key ≡ key → ⊥

-- e is the result in an entry with the key
pub record Recalled (memo : List (Option Remembered)) (key : Key) (e : Edge) : Type 0 where
  pub place : ℕ
  pub entry : Remembered
  pub here : slot memo place ≡ Some entry
  pub like : entry.key ≡ key
  pub is : e ≡ entry.result

-- every entry of the new ones is x or an entry of the old ones
abbrev pub Added : List (Option Remembered) → List (Option Remembered) → Remembered → Type 0
Added old new x = (k : ℕ) (y : Remembered) → slot new k ≡ Some y → (slot old k ≡ Some y) ⊎ (y ≡ x)

-- every entry of the new ones is one of the old
abbrev pub Fewer : List (Option Remembered) → List (Option Remembered) → Type 0
Fewer old new = (k : ℕ) (y : Remembered) → slot new k ≡ Some y → slot old k ≡ Some y

-- a result is right for a key: it has the chart that the operation makes
pub record Right (nodes : List (Option Node)) (shape : Shape) (key : Key) (result : Edge) : Type 0 where
  pub left : Fine nodes (drop key.level shape) key.level key.left
  pub right : Fine nodes (drop key.level shape) key.level key.right
  pub stands : Stands nodes shape key.level (result_chart key.operation (drop key.level shape) key.level (chart nodes (drop key.level shape) key.left) (chart nodes (drop key.level shape) key.right)) result

pub record Knows (nodes : List (Option Node)) (shape : Shape) (memo : List (Option Remembered)) : Type 0 where
  pub table : Table SameKey initial_of memo
  pub all : (k : ℕ) (x : Remembered) → slot memo k ≡ Some x → Right nodes shape x.key x.result
