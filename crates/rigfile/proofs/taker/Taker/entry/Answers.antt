use Rattle.moves.specs.Views.{pairs_of}
use Rattle.framing.proofs.Moves.{no_head}
use Rattle.rigfile.proofs.Taken.{no_effects, no_surcharges}
use Rattle.rigfile.proofs.taker.Taker.entry.Goals as goal

pub returns-in_err-head : goal.returns-in_err-head
returns-in_err-head c = rw c.from_residual.ensures (no_head c.args.self.now.reader.rest.now c.in_err-head.ensures)

pub returns-in_err-effects : goal.returns-in_err-effects
returns-in_err-effects c =
    let p = c.in_ok-conditions.ensures in
    rw c.from_residual-in_err-effects.ensures
    (no_effects c.in_ok-head.head c.args.self.now.reader.rest.now c.head.new.self.reader.rest.now c.in_ok-head.ensures.1 (pairs_of c.in_ok-conditions.conditions.now) c.pairs.new.self.reader.rest.now p.0 p.1 c.in_err-effects.ensures)

pub returns-in_err-charges : goal.returns-in_err-charges
returns-in_err-charges c =
    let p = c.in_ok-conditions.ensures in
    let q = c.in_ok-effects.ensures in
    rw c.from_residual-in_err-charges.ensures
    (no_surcharges c.in_ok-head.head c.args.self.now.reader.rest.now c.head.new.self.reader.rest.now c.in_ok-head.ensures.1 (pairs_of c.in_ok-conditions.conditions.now) c.pairs.new.self.reader.rest.now p.0 p.1 (pairs_of c.in_ok-effects.effects.now) c.pairs-2.new.self.reader.rest.now q.0 q.1 c.in_err-charges.ensures)
