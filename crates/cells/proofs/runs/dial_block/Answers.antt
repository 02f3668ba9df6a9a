use Rattle.std.proofs.Common.{◌≡◌, ◌+◌, ◌-◌, ◌*◌, ◌≤◌, length, arith, rules}
use Rattle.cells.proofs.Writing.{next_row, one_row_more, runs_more, written_fill}
use Rattle.cells.proofs.runs.dial_block.Goals as goal

pub loop-d-preserved : goal.loop-d-preserved
loop-d-preserved c =
    let w = c.args.stride in
    let d = c.loop-d.d in
    let room : d * w + w ≤ length c.loop-d.block = omega (arith, next_row d (length c.args.entries.now) w c.loop-d-test.true, c.requires.within) in
    let wide : (d + 1) * w - d * w ≡ w = omega (arith, one_row_more d w) in
    runs_more d w 0 _ _ c.loop-d.block _ c.loop-d.invariant (written_fill w _ (d * w) _ _ c.loop-d.block _ (omega arith) room wide (c.fill.ensures.after (λ y h. search rules)))
