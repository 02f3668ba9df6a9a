use Rattle.cells.proofs.Writing.{blocks_more}
use Rattle.cells.proofs.Copying.{block_source, block_kept, runs_as}
use Rattle.cells.proofs.runs.put_row.Goals as goal

pub spread_run-requires-clause-source : goal.spread_run-requires-clause-source
spread_run-requires-clause-source c =
    block_source c.args.strides.blocks c.args.strides.count c.args.strides.stride c.args.to c.args.from c.args.setting c.loop-b.b c.requires.low c.loop-b-test.true c.requires.apart

pub loop-b-preserved : goal.loop-b-preserved
loop-b-preserved c =
    let m = c.args.strides.blocks in
    let n = c.args.strides.count in
    let w = c.args.strides.stride in
    let b = c.loop-b.b in
    blocks_more b n w c.args.to _ _ c.loop-b.cells _ c.loop-b.invariant
    (runs_as n w _ _ _ _ _ (λ d r l. block_kept m n w c.args.to c.args.from c.args.setting b c.requires.low c.loop-b-test.true c.requires.apart _ _ _ c.loop-b.invariant r l) c.spread_run.ensures.runs)
