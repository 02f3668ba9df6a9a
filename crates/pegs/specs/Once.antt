-- What pegs keep, and two stores alike, has at most one proof. Assumes nothing.
use Rattle.std.specs.Prelude.{List, Some, None, Option}
use Rattle.std.specs.Coded.{×_prop, Unit-prop}
use mathlib.Core.Bool.{Bool-set}
use mathlib.Core.List.{is_set}
use native.Mathlib.Nat.{ℕ_set}
use Rattle.nodes.specs.declared.edge.Edge.{Edge}
use Rattle.nodes.specs.declared.node.Node.{Node}
use Rattle.model.specs.Scenes.{Shape}
use Rattle.store.specs.Once.{all_prop, fine_prop}
use Rattle.build.specs.Grew.{nodes_in, shape_in}
use Rattle.build.specs.declared.node_store.NodeStore.{NodeStore}
use Rattle.pegs.specs.Held.{peg_fine, Alike, Held}

peg_prop : (nodes : List (Option Node)) (shape : Shape) (p : Option Edge) → IsProp (peg_fine nodes shape p)
peg_prop nodes shape None = Unit-prop
peg_prop nodes shape (Some e) = ×_prop (fine_prop nodes shape 0 e) (Bool-set _ _)

pub alike_prop : (a b : NodeStore) → IsProp (Alike a b)
alike_prop a b p q = λ i. record {
  shape = is_set ℕ_set _ _ p.shape q.shape i;
  size = ℕ_set _ _ p.size q.size i;
}

pub held_prop : (store : NodeStore) (pegs : List (Option Edge)) → IsProp (Held store pegs)
held_prop store pegs p q = λ i. record { fine = all_prop (peg_fine (nodes_in store) (shape_in store)) pegs (peg_prop (nodes_in store) (shape_in store)) p.fine q.fine i }
