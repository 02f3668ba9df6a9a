use Rattle.std.proofs.Common.{rules, None}
use Rattle.rig.specs.Rigs.{contents}
use Rattle.rounds.proofs.Beginning.{zeroth_broken, zeroth_shape, zeroth_first, zeroth_then}
use Rattle.rounds.proofs.iterate.iterate.Goals as goal

pub returns-in_err-before_rounds-clause-made : goal.returns-in_err-before_rounds-clause-made
returns-in_err-before_rounds-clause-made g c =
    let m = g.S.Shelf.meaning c.args.shelf.now in
    let k = g.S.Shelf.meaning c.before_rounds.new.round.shelf.now in
    let made = zeroth_broken (contents c.args.rig.now) m c.masks.result.now c.masks.ensures k c.in_err-before_rounds.field-0.0 c.from_residual.result c.from_residual.ensures.1 (c.in_err-before_rounds.ensures.took.ended None) in
    search (rules, made, c.before_rounds.ensures.took.shelf)

pub repeat_rounds-requires-clause-shape : goal.repeat_rounds-requires-clause-shape
repeat_rounds-requires-clause-shape g c =
    let m = g.S.Shelf.meaning c.args.shelf.now in
    let k = g.S.Shelf.meaning c.before_rounds.new.round.shelf.now in
    zeroth_shape (contents c.args.rig.now) m c.masks.result.now c.masks.ensures k (c.in_ok-before_rounds.ensures.took.ended None) c.requires.shape

pub repeat_rounds-requires-clause-first : goal.repeat_rounds-requires-clause-first
repeat_rounds-requires-clause-first g c =
    let m = g.S.Shelf.meaning c.args.shelf.now in
    let k = g.S.Shelf.meaning c.before_rounds.new.round.shelf.now in
    zeroth_first (contents c.args.rig.now) m c.masks.result.now c.masks.ensures k (c.in_ok-before_rounds.ensures.took.ended None) c.args.rig.now.lawful c.requires.shape (g.met.S.Shelf.sound c.args.shelf.now).eight

pub returns-clause-made : goal.returns-clause-made
returns-clause-made g c =
    let m = g.S.Shelf.meaning c.args.shelf.now in
    let k = g.S.Shelf.meaning c.before_rounds.new.round.shelf.now in
    let after = c.repeat_rounds.ensures.followed in
    let made = zeroth_then (contents c.args.rig.now) m c.masks.result.now c.masks.ensures k (c.in_ok-before_rounds.ensures.took.ended None) (g.S.Shelf.meaning c.repeat_rounds.new.round.shelf.now) c.repeat_rounds.result after.made in
    search (rules, made, after.shelf, c.before_rounds.ensures.took.shelf)
