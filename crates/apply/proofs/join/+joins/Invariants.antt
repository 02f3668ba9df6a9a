use Rattle.std.proofs.Common.{◌+◌, ◌-◌, ◌*◌, length, take}
use Rattle.std.specs.Iterator.Adapters.{enumerate_count}
use Rattle.store.specs.Stores.{node_at}
use Rattle.build.specs.Grew.{nodes_in, shape_in, Begun}
use Rattle.apply.specs.Joins.{goal as joined}
use Rattle.apply.specs.Splits.{edge_of}
use Rattle.apply.proofs.Pairs.{Ahead}
use Rattle.apply.proofs.join.+joins.Given as goal

abbrev pub decreases-join : goal.decreases-join
decreases-join l = 3 * (length (shape_in l.diagrams.now.store) - l.level) + 2

abbrev pub decreases-join_nodes : goal.decreases-join_nodes
decreases-join_nodes l = 3 * (length (shape_in l.diagrams.now.store) - l.level) + 1

abbrev pub decreases-join_kids : goal.decreases-join_kids
decreases-join_kids l = 3 * (length (shape_in l.diagrams.now.store) - l.level)

abbrev pub invariant-join_kids-loop-i : goal.invariant-join_kids-loop-i
invariant-join_kids-loop-i l =
    let nodes = nodes_in l.fn.diagrams.store in
    (goal.iterator-join_kids-loop-i).can_next l.i-iterator
    × (goal.iterator-join_kids-loop-i).is_finite l.i-iterator
    × Ahead (take l.count (node_at nodes l.x.child).edges) (take l.count (node_at nodes l.y.child).edges) l.i-iterator
    × Begun l.fn.diagrams.store l.diagrams.store l.level (joined l.op nodes (shape_in l.fn.diagrams.store) l.level (edge_of l.x) (edge_of l.y)) (enumerate_count l.i-iterator) l.kids
