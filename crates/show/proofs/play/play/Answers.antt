use Rattle.std.proofs.Common.{refl, arith}
use Rattle.show.proofs.Turns.{played_more, played_all}
use Rattle.show.proofs.play.play.Goals as goal

pub loop-cue-init : goal.loop-cue-init
loop-cue-init g c = (record { answers = tt; leaves = refl }, refl)

pub loop-cue-preserved : goal.loop-cue-preserved
loop-cue-preserved g c =
    let i = c.loop-cue.invariant in
    played_more g.S.Shelf.meaning _ _ _ _ _ _ c.cue-item.result _ c.loop-cue-test.true (omega arith) i.0 i.1 c.call.ensures.answer c.call.ensures.left

pub returns : goal.returns
returns g c = record { played = played_all g.S.Shelf.meaning _ _ _ _ _ c.loop-cue-test.false (omega arith) c.loop-cue.invariant.0 }
