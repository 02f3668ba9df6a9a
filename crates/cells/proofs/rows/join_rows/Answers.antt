use Rattle.std.proofs.Common.{◌+◌, ◌<◌, length, ◌∙◌, ap₂, rules}
use Rattle.cells.proofs.Writing.{written_more, cell_kept}
use Rattle.cells.proofs.rows.join_rows.Goals as goal

pub loop-i-preserved : goal.loop-i-preserved
loop-i-preserved g c =
    let i = c.loop-i.i in
    let h = c.loop-i-test.true in
    let inside : c.args.base + i < length c.loop-i.cells = search rules in
    let l = cell_kept c.args.n i c.args.base c.args.left _ _ _ c.requires.apart.0 h c.loop-i.invariant in
    let r = cell_kept c.args.n i c.args.base c.args.right _ _ _ c.requires.apart.1 h c.loop-i.invariant in
    written_more i _ _ _ c.loop-i.cells _ inside c.loop-i.invariant (c.join.ensures.value ∙ ap₂ g.J.Join.joins l r)
