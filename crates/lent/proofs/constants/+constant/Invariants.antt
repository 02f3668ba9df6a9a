use Rattle.std.proofs.Common.{◌-◌, length}
use Rattle.lent.proofs.constants.+constant.Given as goal

abbrev pub decreases-constant : goal.decreases-constant
decreases-constant l = length l.settings.now - l.level
