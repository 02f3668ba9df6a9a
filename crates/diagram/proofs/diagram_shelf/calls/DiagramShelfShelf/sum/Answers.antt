use Rattle.std.proofs.Common.{arith, sym}
use Rattle.model.specs.Shelves.{sum}
use Rattle.model.proofs.Soundness.{call_refused}
use Rattle.nodes.specs.declared.remembered.Op.TheVariants.{Sum}
use Rattle.hang.specs.declared.task.Task.TheVariants.{Join}
use Rattle.shelf.proofs.Calling.{sum_refused, refused_call}
use Rattle.diagram.specs.Means.{means}
use Rattle.diagram.specs.Numbers.{hung_in}
use Rattle.diagram.proofs.Pegs.{tells}
use Rattle.diagram.proofs.Calls.{reach_legal, sum_passes, sum_too_late, may, told}
use Rattle.diagram.proofs.diagram_shelf.calls.DiagramShelfShelf.sum.Goals as goal

pub returns-in_err-x : goal.returns-in_err-x
returns-in_err-x c =
    let s = c.args.self.now in
    let e = sum_refused (means s) (hung_in s.charts.pegs) (tells s) c.args.target c.args.left c.args.right _ (omega (arith, c.in_ok-target.ensures, c.in_ok-target.target.low)) c.in_err-x.ensures in
    let q = refused_call (means s) (sum c.args.target c.args.left c.args.right) _ e c.from_residual-in_err-x.result c.from_residual-in_err-x.ensures.1 in
    record { answer = q.answer; left = q.left }

pub sum_is_late-requires : goal.sum_is_late-requires
sum_is_late-requires c =
    let s = c.args.self.now in
    let got = c.in_ok-x.ensures in
    record { timely = (reach_legal s c.args.left _ got.0 _ c.greatest.ensures.value, reach_legal s c.args.right _ got.1 _ c.greatest-2.ensures.value) }

pub returns-then-sum_is_late : goal.returns-then-sum_is_late
returns-then-sum_is_late c =
    let s = c.args.self.now in
    let got = c.in_ok-x.ensures in
    let e = sum_too_late s c.in_ok-target.target c.args.left c.args.right _ _ got.0 got.1 _ _ c.greatest.ensures.value c.greatest-2.ensures.value _ c.sum_is_late.ensures.value c.args.target c.in_ok-target.ensures c.if-sum_is_late.true in
    record { answer = sym e; left = sym (call_refused (means s) (sum c.args.target c.args.left c.args.right) 16 e) }

pub hang_task-requires : goal.hang_task-requires
hang_task-requires c =
    let s = c.args.self.now in
    let got = c.in_ok-x.ensures in
    record { allowed = may s c.in_ok-target.target (Join Sum c.args.left c.args.right) (sum_passes s c.in_ok-target.target c.args.left c.args.right _ _ got.0 got.1 _ _ c.greatest.ensures.value c.greatest-2.ensures.value _ c.sum_is_late.ensures.value c.if-sum_is_late.false) }

pub returns : goal.returns
returns c =
    let s = c.args.self.now in
    let got = c.in_ok-x.ensures in
    let passes = sum_passes s c.in_ok-target.target c.args.left c.args.right _ _ got.0 got.1 _ _ c.greatest.ensures.value c.greatest-2.ensures.value _ c.sum_is_late.ensures.value c.if-sum_is_late.false in
    let q = told s c.in_ok-target.target (Join Sum c.args.left c.args.right) passes c.args.target c.in_ok-target.ensures _ c.hang_task.result c.hang_task.ensures.hung in
    record { answer = q.answer; left = q.left }
