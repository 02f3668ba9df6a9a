use Rattle.std.proofs.Common.{arith, rules, ◌<◌, slice_index, length}
use Rattle.model.specs.Shelves.{put}
use Rattle.shelf.proofs.Calling.{refused_call}
use Rattle.diagram.specs.Means.{means}
use Rattle.diagram.proofs.Calls.{put_refused}
use Rattle.diagram.proofs.diagram_shelf.calls.DiagramShelfShelf.put.Goals as goal

pub returns-in_err-chart : goal.returns-in_err-chart
returns-in_err-chart c =
    let s = c.args.self.now in
    let low : c.args.device < length (means s).shape = search rules in
    let legal : c.args.setting < slice_index (means s).shape c.args.device = search rules in
    let e = put_refused s c.args.target c.args.source c.args.device c.args.setting _ low legal (omega (arith, c.in_ok-target.ensures, c.in_ok-target.target.low)) c.in_err-chart.ensures in
    let q = refused_call (means s) (put c.args.target c.args.source c.args.device c.args.setting) _ e c.from_residual-in_err-chart.result c.from_residual-in_err-chart.ensures.1 in
    record { answer = q.answer; left = q.left }
