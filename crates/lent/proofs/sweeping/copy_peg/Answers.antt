use Rattle.std.proofs.Common.{Some, subst, arith}
use Rattle.collect.proofs.Copying.{chart_below}
use Rattle.pegs.specs.Held.{peg_fine}
use Rattle.lent.proofs.sweeping.copy_peg.Goals as goal

pub copy-requires : goal.copy-requires
copy-requires c =
    let source = c.args.source.now in
    let shape = c.args.settings.now in
    let e = c.in_ok-peg.field-0 in
    let fine : peg_fine source shape (Some e) = subst (peg_fine source shape) c.in_ok-peg.was c.requires.fine in
    record {
      depth = omega arith;
      store = c.requires.store;
      ready = c.requires.ready;
      moved = c.requires.moved;
      fine = fine.0;
      timely = chart_below source shape c.requires.store 0 e fine.0 fine.1;
    }
