use Rattle.std.proofs.Common.{ap, ◌∙◌}
use Rattle.model.specs.Shelves.{wiped}
use Rattle.planner.proofs.Ruled.{wiped_more}
use Rattle.planner.proofs.planning.clear.Goals as goal

pub loop-peg-preserved : goal.loop-peg-preserved
loop-peg-preserved g c =
    c.wipe.ensures.left ∙ ap (λ m. wiped m c.loop-peg.peg) c.loop-peg.invariant
    ∙ wiped_more (g.S.Shelf.meaning c.args.shelf.now) (g.met.S.Shelf.sound c.args.shelf.now).eight c.loop-peg.peg c.loop-peg-test.true
