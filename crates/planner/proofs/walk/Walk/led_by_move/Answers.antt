use Rattle.std.proofs.Common.{◌≡◌, ◌-◌, ◌≤◌, Some, None, ap, ◌∙◌, arith}
use Rattle.std.proofs.lemmas.Option.{none-some}
use Rattle.lists.specs.Shorts.{listed}
use Rattle.model.specs.Moves.{applied, time}
use Rattle.rig.specs.Rigs.{contents}
use Rattle.moves.specs.Views.{move_of}
use Rattle.planner.proofs.Striding.{ready_shape, reached, next_within_shelf, loses, led_if, first_peg_is}
use Rattle.planner.proofs.walk.Walk.led_by_move.Goals as goal

pub time_from-requires-clause-within : goal.time_from-requires-clause-within
time_from-requires-clause-within g c =
    let rig = contents c.args.self.now.rig.now in
    let m = g.S.Shelf.meaning c.args.self.now.shelf.now in
    let a = move_of c.args.entry.now in
    let there = reached a c.as_slice.ensures.value c.conditions.ensures c.if-not-every_holds.ensures c.effects.ensures c.apply.ensures in
    next_within_shelf rig m c.args.point.now c.requires.stands a c.requires.lawful there.met (ready_shape c.args.self.now.ready) c.as_slice-3.result.now (c.as_slice-3.ensures.value ∙ there.led)

pub returns-in_err-after : goal.returns-in_err-after
returns-in_err-after g c =
    let rig = contents c.args.self.now.rig.now in
    let m = g.S.Shelf.meaning c.args.self.now.shelf.now in
    let p = c.args.point.now in
    let a = move_of c.args.entry.now in
    let there = reached a c.as_slice.ensures.value c.conditions.ensures c.if-not-every_holds.ensures c.effects.ensures c.apply.ensures in
    let after = first_peg_is rig m (ready_shape c.args.self.now.ready) c.as_slice-3.result.now (applied a.effects (listed p.scene)) None (c.as_slice-3.ensures.value ∙ there.led) c.in_err-after.ensures.value in
    record { led = rw c.from_residual-in_err-after.ensures (loses rig m p c.requires.stands a c.requires.lawful there.met None after (λ e. none-some _ e)) }

pub returns : goal.returns
returns g c =
    let rig = contents c.args.self.now.rig.now in
    let m = g.S.Shelf.meaning c.args.self.now.shelf.now in
    let p = c.args.point.now in
    let a = move_of c.args.entry.now in
    let s = listed p.scene in
    let there = reached a c.as_slice.ensures.value c.conditions.ensures c.if-not-every_holds.ensures c.effects.ensures c.apply.ensures in
    let spent : c.from-time.result ≡ time a s = c.from-time.ensures ∙ c.time.ensures ∙ ap (time a) c.as_slice-2.ensures.value in
    let said = c.in_ok-left.ensures in
    let le : time a s ≤ p.left = omega (arith, spent, said) in
    let left : c.in_ok-left.left ≡ p.left - time a s = omega (arith, spent, said) in
    let after = first_peg_is rig m (ready_shape c.args.self.now.ready) c.as_slice-3.result.now (applied a.effects s) (Some c.in_ok-after.after) (c.as_slice-3.ensures.value ∙ there.led) c.in_ok-after.ensures.value in
    record {
      led = rw c.then_some.ensures (led_if rig m p c.requires.stands a c.requires.lawful there.met (record { scene = c.apply.new.scene; left = c.in_ok-left.left }) c.in_ok-after.after there.led le left after);
    }
