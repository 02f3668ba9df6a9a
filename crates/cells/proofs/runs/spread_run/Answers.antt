use Rattle.std.proofs.Common.{arith}
use Rattle.cells.proofs.Writing.{runs_more, written_copy}
use Rattle.cells.proofs.Copying.{source_kept, written_as}
use Rattle.cells.proofs.runs.spread_run.Goals as goal

pub loop-x-preserved : goal.loop-x-preserved
loop-x-preserved c =
    let n = c.args.count in
    let w = c.args.width in
    let x = c.loop-x.x in
    let by = c.copy_within.ensures.by_index in
    runs_more x w c.args.to _ _ c.loop-x.cells _ c.loop-x.invariant
    (written_as w _ _ _ _ _ (source_kept n w c.args.to c.args.from x _ _ c.loop-x-test.true c.requires.source c.loop-x.invariant)
    (written_copy w _ c.args.from _ _ _ (omega arith) by.0 by.1 by.2))
