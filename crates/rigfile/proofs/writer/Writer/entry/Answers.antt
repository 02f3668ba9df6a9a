use Rattle.moves.specs.Views.{move_of}
use Rattle.rigfile.proofs.Seen.{conditions_room, effects_room, after_effects}
use Rattle.rigfile.proofs.writer.Writer.entry.Goals as goal

pub pairs-requires : goal.pairs-requires
pairs-requires c =
    conditions_room c.args.number (move_of c.args.entry.now) _ _ _ c.conditions-conditions.ensures c.effects-effects.ensures c.surcharges-surcharges.ensures c.base.ensures c.requires c.bytes.ensures c.number.ensures

pub pairs-requires-2 : goal.pairs-requires-2
pairs-requires-2 c =
    effects_room c.args.number (move_of c.args.entry.now) _ _ _ c.conditions-conditions.ensures c.effects-effects.ensures c.surcharges-surcharges.ensures c.base.ensures c.requires c.bytes.ensures c.number.ensures c.pairs.ensures

pub surcharges-requires : goal.surcharges-requires
surcharges-requires c =
    (after_effects c.args.number (move_of c.args.entry.now) _ _ _ c.conditions-conditions.ensures c.effects-effects.ensures c.surcharges-surcharges.ensures c.base.ensures c.requires c.bytes.ensures c.number.ensures c.pairs.ensures c.pairs-2.ensures).room

pub returns : goal.returns
returns c =
    (after_effects c.args.number (move_of c.args.entry.now) _ _ _ c.conditions-conditions.ensures c.effects-effects.ensures c.surcharges-surcharges.ensures c.base.ensures c.requires c.bytes.ensures c.number.ensures c.pairs.ensures c.pairs-2.ensures).rest
    c.surcharges.new.self
    c.surcharges.ensures
