use Rattle.std.proofs.Common.{vec_items, sym}
use Rattle.std.proofs.lemmas.Result.{err_from_is_err_and}
use Rattle.shelf.specs.Shapes.{shape_of}
use Rattle.flat.specs.Means.{means}
use Rattle.flat.proofs.Calling.{tells, compares_rows}
use Rattle.shelf.proofs.Calling.{compares_refused}
use Rattle.flat.proofs.store.calls.FlatShelfShelf.same.Goals as goal

pub returns-in_err-left : goal.returns-in_err-left
returns-in_err-left c =
    let s = c.args.self.now in
    let p = err_from_is_err_and c.from_residual.result c.from_residual.ensures.1 in
    record { answer = rw (p.1, p.2) (sym (compares_refused (means s) s.hung (tells (shape_of s.shape) (vec_items s.cells) s.hung) c.args.left c.args.right _ c.in_err-left.ensures)) }

pub returns : goal.returns
returns c =
    let s = c.args.self.now in
    let l = c.in_ok-left.ensures.0 in
    let r = c.in_ok-left.ensures.1 in
    record {
      answer = rw (sym l.0, sym r.0) (compares_rows (shape_of s.shape) (vec_items s.cells) s.hung _ _ c.in_ok-left.left.low c.in_ok-left.right.low l.1 r.1
          c.row.result.now c.row-2.result.now c.same_rows.result c.same_rows.ensures.value c.row.ensures.value c.row-2.ensures.value);
    }
