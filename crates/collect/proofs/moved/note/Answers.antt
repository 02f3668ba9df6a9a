use Rattle.collect.proofs.Copying.{noted_set}
use Rattle.collect.proofs.moved.note.Goals as goal

pub returns-then-i-moved : goal.returns-then-i-moved
returns-then-i-moved c = rw (← c.from-i.ensures) (noted_set c.args.moved.now c.from-i.result c.args.to c.if-i-moved.true)
