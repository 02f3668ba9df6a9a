use Rattle.std.proofs.Common.{◌*◌, ◌≤◌, length, ◌∙◌, arith, rules}
use Rattle.model.specs.Lists.{some}
use Rattle.model.specs.Charts.{late, zipped}
use Rattle.flat.specs.Rows.{row}
use Rattle.flat.specs.Rowing.{apart_rows, joined_legal}
use Rattle.flat.specs.Hanging.{joined_leaves}
use Rattle.flat.proofs.store.FlatShelf.hang_joined.Goals as goal

pub join_rows-requires-clause-apart : goal.join_rows-requires-clause-apart
join_rows-requires-clause-apart g c =
    let n = c.scenes-n.result in
    (apart_rows n c.args.left.number c.args.target.number, apart_rows n c.args.right.number c.args.target.number)

pub join_rows-requires-clause-timely : goal.join_rows-requires-clause-timely
join_rows-requires-clause-timely g c =
    let n = c.scenes-n.result in
    let cells = c.as_mut_slice-cells.result.now in
    let room : 8 * n ≤ length cells = omega (arith, c.args.self.now.room, c.scenes-n.ensures.value, c.as_mut_slice-cells.ensures.len) in
    joined_legal n cells g.J.Join.joins c.args.left.number c.args.right.number c.args.left.low c.args.right.low room
    ((λ i. some late (zipped g.J.Join.joins (row (c.as_mut_slice-cells.ensures.value i) (c.scenes-n.ensures.value i) c.args.left.number) (row (c.as_mut_slice-cells.ensures.value i) (c.scenes-n.ensures.value i) c.args.right.number))) ∙ c.requires.legal)

pub invariant_of-self : goal.invariant_of-self
invariant_of-self g c =
    let s = c.args.self.now in
    let left = joined_leaves s c.scenes-n.result c.args.target.number c.as_mut_slice-cells.result.now c.join_rows.new.cells c.scenes-n.ensures.value c.as_mut_slice-cells.ensures.value c.args.target.low (search rules) (search rules) g.J.Join.joins c.args.left.number c.args.right.number c.args.left.low c.args.right.low c.join_rows.ensures.row in
    record { room = s.room; timely = left.timely c.requires.legal }

pub returns : goal.returns
returns g c =
    let s = c.args.self.now in
    let left = joined_leaves s c.scenes-n.result c.args.target.number c.as_mut_slice-cells.result.now c.join_rows.new.cells c.scenes-n.ensures.value c.as_mut_slice-cells.ensures.value c.args.target.low (search rules) (search rules) g.J.Join.joins c.args.left.number c.args.right.number c.args.left.low c.args.right.low c.join_rows.ensures.row in
    record { hung = left.hung }
