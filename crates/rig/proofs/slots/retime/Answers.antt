use Rattle.std.proofs.Common.{map, ◌∙◌}
use Rattle.lists.specs.Shorts.{listed}
use Rattle.moves.specs.Views.{surcharge_of}
use Rattle.rig.proofs.Storing.{retimed}
use Rattle.rig.proofs.slots.retime.Goals as goal

pub returns-in-Some-clause-seen : goal.returns-in-Some-clause-seen
returns-in-Some-clause-seen c =
    retimed c.args.slots.now c.args.number c.requires _ c.index-slots-number.is c.in-Some.entry (c.index-slots-number.is ∙ c.in-Some.is) c.retime.new.self c.args.base (map surcharge_of (listed c.args.surcharges)) c.retime.ensures
