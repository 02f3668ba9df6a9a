use Rattle.std.proofs.Common.{◌∙◌, refl, arith}
use Rattle.framing.specs.Frames.{Framed}
use Rattle.framing.proofs.Tests.{holds}
use Rattle.framing.proofs.Whole.{no_header}
use Rattle.rigfile.proofs.FrontSeen.{short_devices, short_scene, short_masks, lists}
use Rattle.rigfile.proofs.front.Front.of.Goals as goal

pub returns-in_err-header : goal.returns-in_err-header
returns-in_err-header c = rw c.from_residual-in_err-header.ensures (no_header c.args.bytes.now c.in_err-header.ensures.taken)

pub returns-in_err-devices : goal.returns-in_err-devices
returns-in_err-devices c =
    rw c.from_residual-in_err-devices.ensures
    (short_devices c.in_ok-header.header c.args.bytes.now c.header.new.self.rest.now c.in_ok-header.ensures.taken c.in_err-devices.ensures)

pub returns-in_err-scene : goal.returns-in_err-scene
returns-in_err-scene c =
    rw c.from_residual-in_err-scene.ensures
    (short_scene c.in_ok-header.header c.args.bytes.now c.header.new.self.rest.now c.in_ok-header.ensures.taken c.in_ok-devices.devices c.take.new.reader.rest.now c.in_ok-devices.ensures (omega (arith, c.from.ensures, c.in_err-scene.ensures)))

pub returns-in_err-masks : goal.returns-in_err-masks
returns-in_err-masks c =
    let p = c.in_ok-scene.ensures in
    rw c.from_residual-in_err-masks.ensures
    (short_masks c.in_ok-header.header c.args.bytes.now c.header.new.self.rest.now c.in_ok-header.ensures.taken c.in_ok-devices.devices c.take.new.reader.rest.now c.in_ok-devices.ensures c.in_ok-scene.scene.now c.part.new.self.rest.now (p.0 ∙ c.from.ensures) p.1 (omega (arith, c.from-2.ensures, c.in_err-masks.ensures)))

pub returns : goal.returns
returns c =
    let b = c.args.bytes.now in
    let h = c.in_ok-header.header in
    let p = c.in_ok-scene.ensures in
    let q = c.in_ok-masks.ensures in
    let framed = holds (Framed b) c.is_framed.result c.in_ok-then_some.field-0 c.is_framed.ensures c.in_ok-then_some.ensures in
    lists h b c.header.new.self.rest.now c.in_ok-header.ensures.taken
    (record { devices = c.in_ok-devices.devices; scene = c.in_ok-scene.scene; masks = c.in_ok-masks.masks; moves = c.part-2.new.self.rest; count = h.moves; total = h.total })
    c.take.new.reader.rest.now c.part.new.self.rest.now c.in_ok-devices.ensures (p.0 ∙ c.from.ensures) p.1 (q.0 ∙ c.from-2.ensures) q.1 refl refl framed
