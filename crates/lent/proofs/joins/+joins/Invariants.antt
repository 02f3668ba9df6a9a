use Rattle.std.proofs.Common.{◌+◌, ◌-◌, ◌*◌, length, take}
use Rattle.std.specs.Iterator.Adapters.{enumerate_count}
use Rattle.store.specs.Stores.{node_at}
use Rattle.build.specs.Builds.{Partway}
use Rattle.memo.specs.Results.{Knows}
use Rattle.apply.specs.Joins.{goal as joined}
use Rattle.apply.specs.Splits.{edge_of}
use Rattle.apply.proofs.Pairs.{Ahead}
use Rattle.lent.proofs.joins.+joins.Given as goal

abbrev pub decreases-join : goal.decreases-join
decreases-join l = 3 * (length l.settings.now - l.level) + 2

abbrev pub decreases-join_nodes : goal.decreases-join_nodes
decreases-join_nodes l = 3 * (length l.settings.now - l.level) + 1

abbrev pub decreases-join_kids : goal.decreases-join_kids
decreases-join_kids l = 3 * (length l.settings.now - l.level)

abbrev pub invariant-join_kids-loop-i : goal.invariant-join_kids-loop-i
invariant-join_kids-loop-i l =
    (goal.iterator-join_kids-loop-i).can_next l.i-iterator
    × (goal.iterator-join_kids-loop-i).is_finite l.i-iterator
    × Ahead (take l.count (node_at l.fn.nodes l.x.child).edges) (take l.count (node_at l.fn.nodes l.y.child).edges) l.i-iterator
    × Partway l.fn.nodes l.nodes l.settings l.level (joined l.op l.fn.nodes l.settings l.level (edge_of l.x) (edge_of l.y)) (enumerate_count l.i-iterator) l.kids
    × Knows l.nodes l.settings l.memo
