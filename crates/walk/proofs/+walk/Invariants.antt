use Rattle.std.proofs.Common.{◌-◌, length}
use Rattle.build.specs.Grew.{shape_in}
use Rattle.walk.proofs.+walk.Given as goal

abbrev pub decreases-walk : goal.decreases-walk
decreases-walk l = length (shape_in l.store.now) - l.level
