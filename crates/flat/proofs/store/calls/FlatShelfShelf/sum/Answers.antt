use Rattle.std.proofs.Common.{vec_items, sym, arith}
use Rattle.model.specs.Shelves.{sum}
use Rattle.shelf.specs.Shapes.{shape_of}
use Rattle.flat.specs.Means.{means}
use Rattle.flat.proofs.Calling.{tells, sum_too_late, sum_timely, sum_joined}
use Rattle.shelf.proofs.Calling.{sum_refused, refused_call}
use Rattle.flat.proofs.store.calls.FlatShelfShelf.sum.Goals as goal

pub returns-in_err-left : goal.returns-in_err-left
returns-in_err-left c =
    let s = c.args.self.now in
    let e = sum_refused (means s) s.hung (tells (shape_of s.shape) (vec_items s.cells) s.hung) c.args.target c.args.left c.args.right _ (omega (arith, c.in_ok-target.ensures, c.in_ok-target.target.low)) c.in_err-left.ensures in
    let q = refused_call (means s) (sum c.args.target c.args.left c.args.right) _ e c.from_residual-in_err-left.result c.from_residual-in_err-left.ensures.1 in
    record { answer = q.answer; left = q.left }

pub returns-then-sum_is_late-clause-answer : goal.returns-then-sum_is_late-clause-answer
returns-then-sum_is_late-clause-answer c =
    sym (sum_too_late c.args.self.now _ _ _ c.in_ok-target.target c.in_ok-left.left c.in_ok-left.right c.in_ok-target.ensures c.in_ok-left.ensures c.sum_is_late.result c.sum_is_late.ensures.value c.if-sum_is_late.true)

pub hang_joined-requires : goal.hang_joined-requires
hang_joined-requires c =
    record { legal = sum_timely c.args.self.now _ _ _ c.in_ok-target.target c.in_ok-left.left c.in_ok-left.right c.in_ok-target.ensures c.in_ok-left.ensures c.sum_is_late.result c.sum_is_late.ensures.value c.if-sum_is_late.false }

pub returns : goal.returns
returns c =
    let q = sum_joined c.args.self.now _ _ _ c.in_ok-target.target c.in_ok-left.left c.in_ok-left.right c.in_ok-target.ensures c.in_ok-left.ensures c.sum_is_late.result c.sum_is_late.ensures.value c.if-sum_is_late.false _ c.hang_joined.ensures.hung in
    record { answer = q.answer; left = q.left }
