use Rattle.std.proofs.Common.{◌-◌, length}
use Rattle.lent.proofs.dialling.+dial.Given as goal

abbrev pub decreases-dial : goal.decreases-dial
decreases-dial l = length l.settings.now - l.level
