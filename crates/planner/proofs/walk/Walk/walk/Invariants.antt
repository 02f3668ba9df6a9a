use Rattle.rig.specs.Rigs.{contents}
use Rattle.planner.proofs.OfWalks.{UnderWay}
use Rattle.planner.proofs.walk.Walk.walk.Given as goal

abbrev pub invariant-loop-point : goal.invariant-loop-point
invariant-loop-point g l = UnderWay (contents l.self.rig.now) (g.S.Shelf.meaning l.self.shelf.now) l.time l.initial.sheet l.point l.moves l.sheet

abbrev pub decreases-loop-point : goal.decreases-loop-point
decreases-loop-point g l = l.point.left
