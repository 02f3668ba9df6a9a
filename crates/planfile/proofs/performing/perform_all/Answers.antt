use Rattle.std.proofs.Common.{get_or, refl}
use Rattle.rig.specs.Rigs.{contents}
use Rattle.planfile.proofs.Turns.{turned}
use Rattle.planfile.proofs.performing.perform_all.Goals as goal

pub loop-number-preserved : goal.loop-number-preserved
loop-number-preserved c =
    turned (contents c.args.rig.now) c.args.moves.now c.loop-number.number-index c.loop-number.steps.items (contents c.loop-number.rig) c.loop-number.invariant c.loop-number-test.true
    c.from.result c.perform.result c.unwrap-time.result (contents c.perform.new.self)
    (record { number = get_or c.args.moves.now c.loop-number.number-index 0; time = c.from-in-loop-number.result }) c.push.new.self.items
    c.from.ensures c.perform.ensures.answer c.unwrap-time.ensures c.perform.ensures.left refl c.from-in-loop-number.ensures c.in_ok-push.ensures.items
