use Rattle.std.proofs.Common.{ap, ◌∙◌}
use Rattle.model.specs.Shelves.{with_pegs}
use Rattle.diagram.specs.Means.{means}
use Rattle.diagram.proofs.Calls.{wiped_is, wipe_leaves}
use Rattle.diagram.proofs.diagram_shelf.calls.DiagramShelfShelf.wipe.Goals as goal

pub returns-clause-left : goal.returns-clause-left
returns-clause-left c =
    let s = c.args.self.now in
    let p = c.in_ok-peg.peg in
    ap (with_pegs (means s)) (wiped_is s p.number p.low) ∙ wipe_leaves s p.number c.args.peg p.low c.in_ok-peg.ensures
