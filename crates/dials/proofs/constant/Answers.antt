use Rattle.std.proofs.Common.{◌≤◌, length, drop, arith}
use Rattle.build.specs.Grew.{nodes_in, shape_in}
use Rattle.build.proofs.Grown.{grew_none}
use Rattle.dials.specs.Flats.{flat}
use Rattle.dials.proofs.Turns.{flat_long, flat_timely, flat_leaf}
use Rattle.dials.proofs.Lifts.{Lift, flat_lifted, lift_legal, lift_grew, lift_built}
use Rattle.dials.proofs.constant.Goals.{After-devices-devices}
use Rattle.dials.proofs.constant.Goals as goal

leaf : (c : After-devices-devices) → Lift c.args.store.now c.args.store.now c.args.level c.devices-devices.result (flat (drop c.devices-devices.result (shape_in c.args.store.now)) c.args.entry) (flat (drop c.args.level (shape_in c.args.store.now)) c.args.entry)
leaf c =
    let old = c.args.store.now in
    let shape = shape_in old in
    let v = c.devices-devices.result in
    let above : c.args.level ≤ v = omega (arith, c.devices-devices.ensures.value, c.requires.depth) in
    let depth : v ≤ length shape = omega (arith, c.devices-devices.ensures.value) in
    record {
      above = above;
      depth = depth;
      long = flat_long (drop v shape) c.args.entry;
      timely = flat_timely (drop v shape) c.args.entry c.requires.timely;
      is = flat_lifted shape c.args.level v c.args.entry above depth;
      grew = grew_none old v (flat (drop v shape) c.args.entry);
    }

pub lift-requires-clause-legal : goal.lift-requires-clause-legal
lift-requires-clause-legal c =
    let old = c.args.store.now in
    lift_legal (leaf (goal.at.lift-requires-clause-legal c).After-devices-devices) (record { weight = c.args.entry; child = 0 }) (flat_leaf (nodes_in old) (shape_in old) c.devices-devices.result c.args.entry c.devices-devices.ensures.value)

pub returns : goal.returns
returns c =
    let old = c.args.store.now in
    let s = leaf (goal.at.returns c).After-devices-devices in
    let stands = flat_leaf (nodes_in old) (shape_in old) c.devices-devices.result c.args.entry c.devices-devices.ensures.value in
    record {
      grew = lift_grew s (record { weight = c.args.entry; child = 0 }) stands c.lift.new.store c.lift.ensures.grew;
      built = lift_built s (record { weight = c.args.entry; child = 0 }) stands c.lift.new.store c.lift.result c.lift.ensures.built;
    }
