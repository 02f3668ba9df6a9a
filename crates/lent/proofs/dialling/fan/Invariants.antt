use Rattle.std.proofs.Common.{drop}
use Rattle.model.specs.Charts.{dialled}
use Rattle.build.specs.Builds.{Partway}
use Rattle.lent.proofs.dialling.fan.Given as goal

abbrev pub invariant-loop-i : goal.invariant-loop-i
invariant-loop-i l = Partway l.initial.nodes l.nodes l.settings l.level (dialled (drop l.level l.settings) 0 l.entries) l.i l.kids
