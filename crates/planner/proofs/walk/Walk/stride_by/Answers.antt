use Rattle.std.proofs.Common.{Some, None, arith}
use Rattle.theory.specs.Tables.{action_in}
use Rattle.rig.specs.Rigs.{contents}
use Rattle.moves.specs.Views.{slot_of}
use Rattle.rounds.proofs.Leaving.{few_slots, seen_length}
use Rattle.planner.proofs.OfWalks.{numbered_seen, lawful_seen, strode_none, strode_some, strode_vacant}
use Rattle.planner.proofs.walk.Walk.stride_by.Goals as goal

pub returns-in_err-entry : goal.returns-in_err-entry
returns-in_err-entry g c =
    let rig = contents c.args.self.now.rig.now in
    let there = numbered_seen rig c.slots.result.now c.slots.ensures c.args.number c.in_ok-get.field-0.now None c.in_ok-get.ensures.lookup.3.0 c.in_ok-get.ensures.lookup.1 c.in_err-entry.ensures.value in
    record { strode = rw c.from_residual-in_err-entry.ensures (strode_vacant rig (g.S.Shelf.meaning c.args.self.now.shelf.now) c.args.point.now c.args.number there) }

pub led_by_move-requires-clause-lawful : goal.led_by_move-requires-clause-lawful
led_by_move-requires-clause-lawful g c =
    let rig = contents c.args.self.now.rig.now in
    let xs = c.slots.result.now in
    lawful_seen rig xs c.slots.ensures c.args.self.now.rig.now.lawful c.args.number c.in_ok-get.field-0.now (Some c.in_ok-entry.entry.now) (seen_length slot_of xs rig.slots c.slots.ensures) c.in_ok-get.ensures.lookup.3.0 c.in_ok-get.ensures.lookup.1 c.in_ok-entry.ensures.value

pub returns-in_err-end : goal.returns-in_err-end
returns-in_err-end g c =
    let rig = contents c.args.self.now.rig.now in
    let slot = Some c.in_ok-entry.entry.now in
    let there = numbered_seen rig c.slots.result.now c.slots.ensures c.args.number c.in_ok-get.field-0.now slot c.in_ok-get.ensures.lookup.3.0 c.in_ok-get.ensures.lookup.1 c.in_ok-entry.ensures.value in
    record { strode = rw c.from_residual-in_err-end.ensures (strode_none rig (g.S.Shelf.meaning c.args.self.now.shelf.now) c.args.point.now c.args.number (action_in (slot_of slot)) there c.in_err-end.ensures.led) }

pub overflow_cast-result : goal.overflow_cast-result
overflow_cast-result g c =
    let rig = contents c.args.self.now.rig.now in
    let xs = c.slots.result.now in
    omega (arith, c.in_ok-get.ensures.lookup.3.0, seen_length slot_of xs rig.slots c.slots.ensures, few_slots rig c.args.self.now.rig.now.lawful)

pub returns : goal.returns
returns g c =
    let rig = contents c.args.self.now.rig.now in
    let slot = Some c.in_ok-entry.entry.now in
    let there = numbered_seen rig c.slots.result.now c.slots.ensures c.args.number c.in_ok-get.field-0.now slot c.in_ok-get.ensures.lookup.3.0 c.in_ok-get.ensures.lookup.1 c.in_ok-entry.ensures.value in
    record { strode = strode_some rig (g.S.Shelf.meaning c.args.self.now.shelf.now) c.args.point.now c.args.number (action_in (slot_of slot)) c.in_ok-end.end there c.in_ok-end.ensures.led }
