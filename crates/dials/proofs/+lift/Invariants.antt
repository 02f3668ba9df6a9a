use Rattle.std.proofs.Common.{◌-◌}
use Rattle.dials.proofs.+lift.Given as goal

abbrev pub decreases-lift : goal.decreases-lift
decreases-lift l = l.from - l.level
