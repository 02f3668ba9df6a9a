use Rattle.std.proofs.Common.{◌+◌, get_or, None}
use Rattle.cells.specs.Writes.{Written}
use Rattle.cells.proofs.rows.join_rows.Given as goal

abbrev pub invariant-loop-i : goal.invariant-loop-i
invariant-loop-i g l =
    Written l.i l.base (λ k. g.J.Join.joins (get_or l.initial.cells (l.left + k) None) (get_or l.initial.cells (l.right + k) None)) l.initial.cells l.cells
