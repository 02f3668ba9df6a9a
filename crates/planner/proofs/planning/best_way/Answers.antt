use Rattle.std.proofs.Common.{refl}
use Rattle.rig.specs.Rigs.{contents}
use Rattle.planner.proofs.OfWalks.{walked_best}
use Rattle.planner.proofs.Outcomes.{counted_first}
use Rattle.planner.proofs.planning.best_way.Goals as goal

pub returns-then-moves-sheet : goal.returns-then-moves-sheet
returns-then-moves-sheet g c =
    let rig = contents c.args.rig.now in
    let m = g.S.Shelf.meaning c.args.shelf.now in
    let best = walked_best rig m c.requires.ready c.args.time c.requires.timed _ _ _ c.walk-moves.ensures.taken in
    record { filled = (record { moves = best.moves; time = c.args.time; best = best.best; many = best.counted; short = c.if-moves-sheet.true }, refl) }

pub returns : goal.returns
returns g c =
    let rig = contents c.args.rig.now in
    let m = g.S.Shelf.meaning c.args.shelf.now in
    let best = walked_best rig m c.requires.ready c.args.time c.requires.timed in
    record { filled = (refl, refl, counted_first rig c.args.time c.walk-moves.result c.walk.result _ c.walk-moves.new.sheet c.args.sheet.now c.walk.new.sheet (best _ _ _ c.walk-moves.ensures.taken) (best _ _ _ c.walk.ensures.taken) c.if-moves-sheet.false) }
