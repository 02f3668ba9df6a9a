use Rattle.std.proofs.Common.{ℕ, ◌*◌, ◌≤◌, length, take, sym, ◌∙◌, subst, arith, rules}
use Rattle.model.proofs.Sizes.{size_some, legal_take}
use Rattle.shelf.specs.Shapes.{shape_of}
use Rattle.cells.specs.Writes.{Apart}
use Rattle.flat.specs.Rowing.{within_row, apart_rows, row_size}
use Rattle.flat.specs.Hanging.{put_leaves}
use Rattle.flat.proofs.store.FlatShelf.hang_put.Goals as goal

pub put_row-requires-clause-some : goal.put_row-requires-clause-some
put_row-requires-clause-some c =
    let ns = shape_of c.args.self.now.shape in
    omega (arith, c.strides-strides.ensures.blocks, size_some (take c.args.device ns) (legal_take c.args.device ns c.args.self.now.shape.legal).1)

pub put_row-requires-clause-within : goal.put_row-requires-clause-within
put_row-requires-clause-within c =
    let s = c.args.self.now in
    let x = c.strides-strides.result in
    let e = c.strides-strides.ensures in
    let n = c.scenes-n.result in
    let room : 8 * n ≤ length c.as_mut_slice.result.now = omega (arith, s.room, c.scenes-n.ensures.value, c.as_mut_slice.ensures.len) in
    let all = row_size (shape_of s.shape) c.args.device x.blocks x.count x.stride c.requires.low.0 e.blocks e.count e.stride in
    (omega (arith, all, c.scenes-n.ensures.value, within_row c.args.target.number n _ c.args.target.low room), omega (arith, all, c.scenes-n.ensures.value, within_row c.args.source.number n _ c.args.source.low room))

pub put_row-requires-clause-apart : goal.put_row-requires-clause-apart
put_row-requires-clause-apart c =
    let x = c.strides-strides.result in
    let e = c.strides-strides.ensures in
    let n = c.scenes-n.result in
    let all = row_size (shape_of c.args.self.now.shape) c.args.device x.blocks x.count x.stride c.requires.low.0 e.blocks e.count e.stride in
    subst (λ (k : ℕ). Apart k (c.args.source.number * n) (c.args.target.number * n)) (c.scenes-n.ensures.value ∙ sym all) (apart_rows n c.args.source.number c.args.target.number)

pub invariant_of-self : goal.invariant_of-self
invariant_of-self c =
    let s = c.args.self.now in
    let x = c.strides-strides.result in
    let e = c.strides-strides.ensures in
    let left = put_leaves s c.scenes-n.result c.args.target.number c.as_mut_slice.result.now c.put_row.new.cells c.scenes-n.ensures.value c.as_mut_slice.ensures.value c.args.target.low (search rules) (search rules) c.args.device x.blocks x.count x.stride c.requires.low.0 e.blocks e.count e.stride c.args.source.number c.args.setting (omega (arith, e.count, c.requires.low.1)) c.put_row.ensures.blocks in
    record { room = s.room; timely = left.timely c.requires.legal }

pub returns : goal.returns
returns c =
    let s = c.args.self.now in
    let x = c.strides-strides.result in
    let e = c.strides-strides.ensures in
    let left = put_leaves s c.scenes-n.result c.args.target.number c.as_mut_slice.result.now c.put_row.new.cells c.scenes-n.ensures.value c.as_mut_slice.ensures.value c.args.target.low (search rules) (search rules) c.args.device x.blocks x.count x.stride c.requires.low.0 e.blocks e.count e.stride c.args.source.number c.args.setting (omega (arith, e.count, c.requires.low.1)) c.put_row.ensures.blocks in
    record { hung = left.hung }
