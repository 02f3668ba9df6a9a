use Rattle.std.proofs.Common.{◌-◌, length}
use Rattle.lent.proofs.paths.+walk.Given as goal

abbrev pub decreases-walk : goal.decreases-walk
decreases-walk l = length l.settings.now - l.level
