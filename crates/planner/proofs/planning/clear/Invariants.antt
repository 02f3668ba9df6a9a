use Rattle.std.proofs.Common.{◌≡◌}
use Rattle.planner.proofs.Ruled.{wiped_below}
use Rattle.planner.proofs.planning.clear.Given as goal

abbrev pub invariant-loop-peg : goal.invariant-loop-peg
invariant-loop-peg g l = g.S.Shelf.meaning l.shelf ≡ wiped_below (g.S.Shelf.meaning l.initial.shelf) l.peg
