-- What is known of remembered results has at most one proof. Assumes nothing.
use Rattle.std.specs.Prelude.{List, drop, Option}
use Rattle.std.specs.Coded.{×_prop}
use mathlib.Core.List.{is_set}
use Rattle.nodes.specs.declared.edge.Edge.{Edge}
use Rattle.nodes.specs.declared.node.Node.{Node}
use Rattle.nodes.specs.declared.remembered.Key.{Key}
use Rattle.nodes.specs.declared.remembered.Remembered.{Remembered}
use Rattle.model.specs.Scenes.{Shape}
use Rattle.table.specs.Once.{table_prop}
use Rattle.store.specs.Once.{time_set, fine_prop}
use Rattle.memo.specs.Results.{Right, Knows}

right_prop : (nodes : List (Option Node)) (shape : Shape) (key : Key) (e : Edge) → IsProp (Right nodes shape key e)
right_prop nodes shape key e p q = λ i. record {
  left = fine_prop nodes (drop key.level shape) key.level key.left p.left q.left i;
  right = fine_prop nodes (drop key.level shape) key.level key.right p.right q.right i;
  stands = ×_prop (fine_prop nodes (drop key.level shape) key.level e) (is_set time_set _ _) p.stands q.stands i;
}

pub knows_prop : (nodes : List (Option Node)) (shape : Shape) (memo : List (Option Remembered)) → IsProp (Knows nodes shape memo)
knows_prop nodes shape memo p q = λ i. record {
  table = table_prop _ _ memo p.table q.table i;
  all = λ k x h. right_prop nodes shape x.key x.result (p.all k x h) (q.all k x h) i;
}
