use Rattle.std.proofs.Common.{◌-◌, length}
use Rattle.build.specs.Grew.{shape_in}
use Rattle.collect.specs.Collecting.{Lasts}
use Rattle.collect.proofs.Copying.{Filled}
use Rattle.collect.proofs.collector.Collector.+copy.Given as goal

abbrev pub decreases-copy : goal.decreases-copy
decreases-copy l = length (shape_in l.self.now.spare.now) - l.level

abbrev pub invariant-loop-i : goal.invariant-loop-i
invariant-loop-i l =
    Lasts l.initial.self l.self
    × Filled l.self.source.now l.initial.self.spare.now l.self.spare.now l.self.moved.now l.level l.e l.i l.kids
