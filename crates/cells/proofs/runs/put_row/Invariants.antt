use Rattle.std.proofs.Common.{◌+◌, ◌*◌, get_or, None}
use Rattle.cells.specs.Writes.{Blocks}
use Rattle.cells.proofs.runs.put_row.Given as goal

abbrev pub invariant-loop-b : goal.invariant-loop-b
invariant-loop-b l =
    Blocks l.b l.strides.count l.strides.stride l.to
    (λ b _ r. get_or l.initial.cells (l.from + (b * (l.strides.count * l.strides.stride) + (l.setting * l.strides.stride + r))) None)
    l.initial.cells l.cells
