use Rattle.rigfile.specs.Writing.{surcharge_bytes}
use Rattle.rigfile.proofs.Turns.{item_room, item_put, items_put}
use Rattle.rigfile.proofs.writer.Writer.surcharges.Goals as goal

pub surcharge-requires : goal.surcharge-requires
surcharge-requires c =
    item_room surcharge_bytes c.args.surcharges.now c.loop-surcharge.surcharge-index c.loop-surcharge.invariant c.surcharge-item.result c.surcharge-item.result c.loop-surcharge-test.true c.surcharge-item.is

pub loop-surcharge-preserved : goal.loop-surcharge-preserved
loop-surcharge-preserved c =
    item_put surcharge_bytes c.args.surcharges.now c.loop-surcharge.surcharge-index c.loop-surcharge.invariant c.surcharge-item.result c.surcharge-item.result c.loop-surcharge-test.true c.surcharge-item.is c.surcharge.ensures

pub returns : goal.returns
returns c = items_put surcharge_bytes c.args.surcharges.now c.loop-surcharge.surcharge-index c.loop-surcharge.invariant c.loop-surcharge-test.false
