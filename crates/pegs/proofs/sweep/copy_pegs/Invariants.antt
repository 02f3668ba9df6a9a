use Rattle.std.proofs.Common.{◌≡◌}
use Rattle.build.specs.Grew.{nodes_in, shape_in}
use Rattle.collect.specs.Collecting.{Lasts}
use Rattle.pegs.specs.Held.{Swept}
use Rattle.pegs.proofs.sweep.copy_pegs.Given as goal

abbrev pub invariant-loop-peg : goal.invariant-loop-peg
invariant-loop-peg l =
    Lasts l.initial.collector l.collector
    × (shape_in l.collector.spare.now ≡ shape_in l.initial.collector.spare.now)
    × Swept l.initial.collector.source.now (nodes_in l.collector.spare.now) (shape_in l.initial.collector.spare.now) l.initial.pegs l.pegs l.peg-index
