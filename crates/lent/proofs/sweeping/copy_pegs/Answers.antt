use Rattle.std.proofs.Common.{arith}
use Rattle.lent.proofs.Sweeps.{next_fine, swept_ready, swept_more}
use Rattle.lent.proofs.sweeping.copy_pegs.Goals as goal

pub copy_peg-requires : goal.copy_peg-requires
copy_peg-requires c =
    let at = c.loop-peg.invariant in
    record {
      store = c.requires.held.ready.store;
      ready = at.ready;
      moved = at.moved;
      fine = next_fine c.args.source.now c.loop-peg.spare c.loop-peg.spare c.args.settings.now c.args.pegs.now c.loop-peg.pegs c.loop-peg.peg-index c.requires.held (omega arith) at.ready at.swept;
    }

pub loop-peg-preserved : goal.loop-peg-preserved
loop-peg-preserved c =
    let at = c.loop-peg.invariant in
    let got = c.copy_peg.ensures in
    record {
      ready = swept_ready c.args.source.now c.loop-peg.spare c.copy_peg.new.nodes c.args.settings.now c.args.pegs.now c.loop-peg.pegs c.loop-peg.peg-index c.requires.held (omega arith) at.ready at.swept c.copy_peg.result got.copies;
      swept = swept_more c.args.source.now c.loop-peg.spare c.copy_peg.new.nodes c.args.settings.now c.args.pegs.now c.loop-peg.pegs c.loop-peg.peg-index c.requires.held (omega arith) at.ready at.swept c.copy_peg.result got.copies;
      moved = got.moved;
    }
