use Rattle.std.proofs.Common.{sym}
use Rattle.std.proofs.lemmas.Result.{err_from_is_err_and}
use Rattle.shelf.proofs.Calling.{compares_refused}
use Rattle.diagram.specs.Means.{means}
use Rattle.diagram.specs.Numbers.{hung_in}
use Rattle.diagram.proofs.Pegs.{tells}
use Rattle.diagram.proofs.Calls.{compares_edges}
use Rattle.diagram.proofs.diagram_shelf.calls.DiagramShelfShelf.same.Goals as goal

pub returns-in_err-x : goal.returns-in_err-x
returns-in_err-x c =
    let s = c.args.self.now in
    let p = err_from_is_err_and c.from_residual.result c.from_residual.ensures.1 in
    record { answer = rw (p.1, p.2) (sym (compares_refused (means s) (hung_in s.charts.pegs) (tells s) c.args.left c.args.right _ c.in_err-x.ensures)) }

pub returns : goal.returns
returns c =
    let got = c.in_ok-x.ensures in
    record { answer = compares_edges c.args.self.now c.args.left c.args.right _ _ got.0 got.1 c.eq.result c.eq.ensures }
