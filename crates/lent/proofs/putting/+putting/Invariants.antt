use Rattle.std.proofs.Common.{◌+◌, ◌-◌, ◌*◌, length}
use Rattle.build.specs.Builds.{Partway}
use Rattle.memo.specs.Results.{Knows}
use Rattle.puts.specs.Puts as puts
use Rattle.lent.proofs.putting.+putting.Given as goal

abbrev pub decreases-put : goal.decreases-put
decreases-put l = 2 * (length l.settings.now - l.level) + 1

abbrev pub decreases-put_below : goal.decreases-put_below
decreases-put_below l = 2 * (length l.settings.now - l.level)

abbrev pub invariant-put_below-loop-i : goal.invariant-put_below-loop-i
invariant-put_below-loop-i l = record {
  way : Partway l.fn.nodes l.nodes l.settings l.level (puts.goal l.fn.nodes l.settings l.level l.device l.setting (puts.at_zero l.child)) l.i l.kids;
  knows : Knows l.nodes l.settings l.memo;
}
