use Rattle.std.proofs.Common.{arith}
use Rattle.rig.specs.Rigs.{contents}
use Rattle.planner.proofs.OfWalks.{way_begun, way_on, way_ended}
use Rattle.planner.proofs.walk.Walk.walk.Goals as goal

pub loop-point-init : goal.loop-point-init
loop-point-init g c =
    way_begun (contents c.args.self.now.rig.now) (g.S.Shelf.meaning c.args.self.now.shelf.now) c.args.self.now.rig.now.lawful c.args.time c.args.sheet.now c.beginning-point.result c.beginning-point.ensures.scene c.beginning-point.ensures.left c.requires.timed

pub loop-point-preserved : goal.loop-point-preserved
loop-point-preserved g c =
    way_on (contents c.args.self.now.rig.now) (g.S.Shelf.meaning c.args.self.now.shelf.now) c.args.self.now.rig.now.lawful c.args.time c.args.sheet.now c.loop-point.point c.loop-point.moves c.loop-point.sheet c.set_in.new.items c.next_stride-stride.result
    c.loop-point.invariant c.next_stride-stride.ensures.strides c.set_in.ensures

pub returns : goal.returns
returns g c =
    record { taken = way_ended (contents c.args.self.now.rig.now) (g.S.Shelf.meaning c.args.self.now.shelf.now) c.args.self.now.rig.now.lawful c.args.time c.args.sheet.now c.loop-point.point c.loop-point.moves c.loop-point.sheet c.loop-point.invariant (omega (arith, c.loop-point-test.false)) }
