use Rattle.std.proofs.Common.{◌-◌, length}
use Rattle.lent.proofs.Copies.{Filled}
use Rattle.lent.proofs.copying.+copy.Given as goal

abbrev pub decreases-copy : goal.decreases-copy
decreases-copy l = length l.settings.now - l.level

abbrev pub invariant-loop-i : goal.invariant-loop-i
invariant-loop-i l = Filled l.source l.initial.nodes l.nodes l.settings l.moved l.level l.e l.i l.kids
