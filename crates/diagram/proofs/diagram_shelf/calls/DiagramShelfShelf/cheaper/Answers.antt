use Rattle.std.proofs.Common.{arith}
use Rattle.model.specs.Shelves.{cheaper}
use Rattle.nodes.specs.declared.remembered.Op.TheVariants.{Cheaper}
use Rattle.hang.specs.declared.task.Task.TheVariants.{Join}
use Rattle.shelf.proofs.Calling.{cheaper_refused, refused_call}
use Rattle.diagram.specs.Means.{means}
use Rattle.diagram.specs.Numbers.{hung_in}
use Rattle.diagram.proofs.Pegs.{tells}
use Rattle.diagram.proofs.Calls.{cheaper_passes, may, told}
use Rattle.diagram.proofs.diagram_shelf.calls.DiagramShelfShelf.cheaper.Goals as goal

pub returns-in_err-charts : goal.returns-in_err-charts
returns-in_err-charts c =
    let s = c.args.self.now in
    let e = cheaper_refused (means s) (hung_in s.charts.pegs) (tells s) c.args.target c.args.left c.args.right _ (omega (arith, c.in_ok-target.ensures, c.in_ok-target.target.low)) c.in_err-charts.ensures in
    let q = refused_call (means s) (cheaper c.args.target c.args.left c.args.right) _ e c.from_residual-in_err-charts.result c.from_residual-in_err-charts.ensures.1 in
    record { answer = q.answer; left = q.left }

pub hang_task-requires : goal.hang_task-requires
hang_task-requires c =
    let s = c.args.self.now in
    let got = c.in_ok-charts.ensures in
    record { allowed = may s c.in_ok-target.target (Join Cheaper c.args.left c.args.right) (cheaper_passes s c.in_ok-target.target c.args.left c.args.right _ _ got.0 got.1) }

pub returns : goal.returns
returns c =
    let s = c.args.self.now in
    let got = c.in_ok-charts.ensures in
    let q = told s c.in_ok-target.target (Join Cheaper c.args.left c.args.right) (cheaper_passes s c.in_ok-target.target c.args.left c.args.right _ _ got.0 got.1) c.args.target c.in_ok-target.ensures _ c.hang_task.result c.hang_task.ensures.hung in
    record { answer = q.answer; left = q.left }
