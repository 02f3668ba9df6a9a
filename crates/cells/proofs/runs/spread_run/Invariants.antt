use Rattle.std.proofs.Common.{◌+◌, get_or, None}
use Rattle.cells.specs.Writes.{Runs}
use Rattle.cells.proofs.runs.spread_run.Given as goal

abbrev pub invariant-loop-x : goal.invariant-loop-x
invariant-loop-x l = Runs l.x l.width l.to (λ _ r. get_or l.initial.cells (l.from + r) None) l.initial.cells l.cells
