use Rattle.std.proofs.lemmas.List.{map-set}
use Rattle.moves.specs.Views.{slot_of}
use Rattle.rig.proofs.slots.store.Goals as goal

pub returns-clause-seen : goal.returns-clause-seen
returns-clause-seen c = map-set slot_of c.args.slots.now c.args.number c.args.entry
