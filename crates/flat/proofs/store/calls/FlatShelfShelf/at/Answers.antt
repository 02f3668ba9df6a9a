use Rattle.std.proofs.Common.{◌*◌, ◌≤◌, length, vec_items, sym, ap, arith}
use Rattle.model.specs.Scenes.{size}
use Rattle.model.proofs.Sizes.{size_most, legal_parts}
use Rattle.shelf.specs.Shapes.{shape_of}
use Rattle.flat.specs.Rowing.{length_row}
use Rattle.flat.proofs.Calling.{placed, reads_row}
use Rattle.flat.proofs.store.calls.FlatShelfShelf.at.Goals as goal

pub offset_bounds-row-place : goal.offset_bounds-row-place
offset_bounds-row-place c =
    let s = c.args.self.now in
    let ns = shape_of s.shape in
    let p = legal_parts ns s.shape.legal in
    omega (arith, (placed ns c.args.scene.now c.in_ok-place.place c.in_ok-place.ensures.answer).1, size_most ns p.2 p.1)

pub bounds-row-place : goal.bounds-row-place
bounds-row-place c =
    let s = c.args.self.now in
    let ns = shape_of s.shape in
    let room : 8 * size ns ≤ length (vec_items s.cells) = omega (arith, s.room, s.cells.ok.0) in
    omega (arith, (placed ns c.args.scene.now c.in_ok-place.place c.in_ok-place.ensures.answer).1, ap length c.row.ensures.value, length_row (vec_items s.cells) (size ns) _ c.in_ok-peg.peg.low room)

pub returns : goal.returns
returns c =
    let s = c.args.self.now in
    let p = c.in_ok-peg.ensures in
    record { answer = rw (sym p.0) (reads_row (shape_of s.shape) (vec_items s.cells) s.hung _ c.args.scene.now c.in_ok-place.place c.in_ok-place.ensures.answer c.in_ok-peg.peg.low p.1 c.row.result.now c.row.ensures.value) }
