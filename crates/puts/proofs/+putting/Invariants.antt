use Rattle.std.proofs.Common.{◌+◌, ◌-◌, ◌*◌, length}
use Rattle.build.specs.Grew.{nodes_in, shape_in, Begun}
use Rattle.puts.specs.Puts as puts
use Rattle.puts.proofs.+putting.Given as goal

abbrev pub decreases-put : goal.decreases-put
decreases-put l = 2 * (length (shape_in l.diagrams.now.store) - l.level) + 1

abbrev pub decreases-put_below : goal.decreases-put_below
decreases-put_below l = 2 * (length (shape_in l.diagrams.now.store) - l.level)

abbrev pub invariant-put_below-loop-i : goal.invariant-put_below-loop-i
invariant-put_below-loop-i l = Begun l.fn.diagrams.store l.diagrams.store l.level (puts.goal (nodes_in l.fn.diagrams.store) (shape_in l.fn.diagrams.store) l.level l.device l.setting (puts.at_zero l.child)) l.i l.kids
