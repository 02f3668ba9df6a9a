use Rattle.std.proofs.Common.{◌∙◌, arith}
use Rattle.collect.proofs.Lasting.{lasts_on}
use Rattle.pegs.proofs.Sweeps.{swept_more}
use Rattle.pegs.proofs.sweep.copy_pegs.Goals as goal

pub loop-peg-preserved : goal.loop-peg-preserved
loop-peg-preserved c =
    let lasts = c.loop-peg.invariant.0 in
    let shape = c.loop-peg.invariant.1 in
    let got = c.copy_peg.ensures in
    let more = swept_more c.args.collector.now.source.now c.loop-peg.collector.spare.now c.copy_peg.new.collector.spare.now c.args.pegs.now c.loop-peg.pegs c.loop-peg.peg-index (rw shape c.args.collector.now.store) (rw shape c.requires.fine) (omega arith) (rw shape c.loop-peg.invariant.2) c.copy_peg.result (rw (← lasts.source) got.copies) in (
      lasts_on lasts got.lasts,
      more.0 ∙ shape,
      rw (← shape) more.1,
    )
