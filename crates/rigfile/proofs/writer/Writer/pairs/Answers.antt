use Rattle.std.proofs.Common.{get_or, refl}
use Rattle.moves.specs.declared.pair.Pair.{Pair}
use Rattle.rigfile.specs.Writing.{pair_bytes}
use Rattle.rigfile.proofs.Turns.{item_room, item_put, items_put}
use Rattle.rigfile.proofs.writer.Writer.pairs.Goals as goal

abbrev none : Pair
none = record { device = 0; setting = 0 }

pub pair-requires : goal.pair-requires
pair-requires c = item_room pair_bytes c.args.pairs.now c.loop-pair.pair-index c.loop-pair.invariant (get_or c.args.pairs.now c.loop-pair.pair-index none) none c.loop-pair-test.true refl

pub loop-pair-preserved : goal.loop-pair-preserved
loop-pair-preserved c =
    item_put pair_bytes c.args.pairs.now c.loop-pair.pair-index c.loop-pair.invariant (get_or c.args.pairs.now c.loop-pair.pair-index none) none c.loop-pair-test.true refl c.pair.ensures

pub returns : goal.returns
returns c = items_put pair_bytes c.args.pairs.now c.loop-pair.pair-index c.loop-pair.invariant c.loop-pair-test.false
