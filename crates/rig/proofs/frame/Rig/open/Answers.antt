use Rattle.std.proofs.Common.{rules}
use Rattle.rig.proofs.OpeningSeen.{begun}
use Rattle.rig.proofs.frame.Rig.open.Goals as goal

pub invariant_of-result : goal.invariant_of-result
invariant_of-result c =
    let left = begun c.args.settings.now c.args.names.now c.args.scene.now c.in-Ok.devices c.len.result _ c.in-Ok.ensures c.len.ensures c.fill.new.self (c.fill.ensures.items (λ y k. search rules)) in
    record { lawful = left.lawful }

pub returns-in-Ok : goal.returns-in-Ok
returns-in-Ok c =
    let left = begun c.args.settings.now c.args.names.now c.args.scene.now c.in-Ok.devices c.len.result _ c.in-Ok.ensures c.len.ensures c.fill.new.self (c.fill.ensures.items (λ y k. search rules)) in
    (left.accepted, left.seen)
