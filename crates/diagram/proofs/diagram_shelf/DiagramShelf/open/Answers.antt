use Rattle.std.proofs.Common.{rules}
use Rattle.diagram.proofs.Opening.{opened_is}
use Rattle.diagram.proofs.diagram_shelf.DiagramShelf.open.Goals as goal

pub returns : goal.returns
returns c =
    let got = c.in_ok-counts.ensures in
    record { opened = opened_is c.args.settings.now c.args.slots _ (λ e f p. search rules) got.0 c.empty.result c.map_err.result (rw got.1 at c.empty.ensures.opened) c.map_err.ensures.cases }
