use Rattle.std.proofs.Common.{◌+◌, drop}
use Rattle.std.proofs.lemmas.List.{at_drop_all}
use Rattle.rigfile.specs.Writing.{slot_bytes, slots_bytes}
use Rattle.rigfile.proofs.Written.{room, turn, ended}
use Rattle.rigfile.proofs.Turns.{slots_left}
use Rattle.rigfile.proofs.writer.Writer.slots.Goals as goal

pub slot-requires : goal.slot-requires
slot-requires c =
    let xs = c.args.slots.now in
    let i = c.loop-number.number in
    let x = c.index-slots-number.result in
    room (slot_bytes i x) (slots_bytes (i + 1) (drop (i + 1) xs)) (slots_left xs i x x c.loop-number-test.true c.index-slots-number.is) c.loop-number.invariant

pub loop-number-preserved : goal.loop-number-preserved
loop-number-preserved c =
    let xs = c.args.slots.now in
    let i = c.loop-number.number in
    let x = c.index-slots-number.result in
    turn (slots_bytes (i + 1) (drop (i + 1) xs)) (slots_left xs i x x c.loop-number-test.true c.index-slots-number.is) c.loop-number.invariant c.slot.ensures

pub returns : goal.returns
returns c = ended (at_drop_all (slots_bytes c.loop-number.number) c.args.slots.now c.loop-number.number c.loop-number-test.false) c.loop-number.invariant
