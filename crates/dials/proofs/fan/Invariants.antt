use Rattle.std.proofs.Common.{drop}
use Rattle.model.specs.Charts.{dialled}
use Rattle.build.specs.Grew.{shape_in, Begun}
use Rattle.dials.proofs.fan.Given as goal

abbrev pub invariant-loop-i : goal.invariant-loop-i
invariant-loop-i l = Begun l.initial.store l.store l.level (dialled (drop l.level (shape_in l.initial.store)) 0 l.entries) l.i l.kids
