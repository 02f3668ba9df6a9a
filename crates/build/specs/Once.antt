-- What an operation may start from has at most one proof. Assumes nothing.
use Rattle.std.specs.Prelude.{List, Option}
use Rattle.std.specs.Coded.{le_prop}
use Rattle.nodes.specs.declared.node.Node.{Node}
use Rattle.model.specs.Scenes.{Shape}
use Rattle.table.specs.Once.{table_prop}
use Rattle.store.specs.Once.{store_prop}
use Rattle.build.specs.Builds.{Ready}

pub ready_prop : (nodes : List (Option Node)) (shape : Shape) → IsProp (Ready nodes shape)
ready_prop nodes shape p q = λ i. record {
  table = table_prop _ _ nodes p.table q.table i;
  store = store_prop nodes shape p.store q.store i;
  small = le_prop p.small q.small i;
  some = λ k h. le_prop (p.some k h) (q.some k h) i;
  few = λ k. le_prop (p.few k) (q.few k) i;
  short = le_prop p.short q.short i;
}
