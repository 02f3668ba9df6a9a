use Rattle.std.proofs.Common.{length, ap, arith}
use Rattle.std.proofs.lemmas.List.Concat.{length-flat_map}
use Rattle.moves.specs.Views.{move_of}
use Rattle.rigfile.specs.Writing.{surcharge_bytes}
use Rattle.rigfile.proofs.Seen.{move_size, slot_used, size_small}
use Rattle.rigfile.proofs.sizes.move_size.Goals as goal

pub overflow_add-result-3 : goal.overflow_add-result-3
overflow_add-result-3 c = omega (arith, size_small c.args.entry.now _ _ _ c.conditions.ensures c.effects.ensures c.surcharges.ensures, length-flat_map surcharge_bytes c.surcharges.result.now, c.surcharges_size.ensures)

pub returns-clause-size : goal.returns-clause-size
returns-clause-size c =
    let m = c.args.entry.now in
    omega (arith, move_size 0 (move_of m) _ _ _ c.conditions.ensures c.effects.ensures c.surcharges.ensures, length-flat_map surcharge_bytes c.surcharges.result.now, c.surcharges_size.ensures, ap length (slot_used 0 m))

pub returns-clause-small : goal.returns-clause-small
returns-clause-small c = omega (arith, size_small c.args.entry.now _ _ _ c.conditions.ensures c.effects.ensures c.surcharges.ensures, length-flat_map surcharge_bytes c.surcharges.result.now, c.surcharges_size.ensures)
