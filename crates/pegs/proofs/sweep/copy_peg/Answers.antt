use Rattle.std.proofs.Common.{Some, subst}
use Rattle.build.specs.Grew.{shape_in}
use Rattle.collect.proofs.Copying.{chart_below}
use Rattle.pegs.specs.Held.{peg_fine}
use Rattle.pegs.proofs.sweep.copy_peg.Goals as goal

pub copy-requires-clause-timely : goal.copy-requires-clause-timely
copy-requires-clause-timely c =
    let source = c.args.collector.now.source.now in
    let shape = shape_in c.args.collector.now.spare.now in
    let e = c.in_ok-peg.field-0 in
    let fine : peg_fine source shape (Some e) = subst (peg_fine source shape) c.in_ok-peg.was c.requires.fine in
    chart_below source shape c.args.collector.now.store 0 e fine.0 fine.1
