use Rattle.std.proofs.Common.{arith}
use Rattle.framing.proofs.Moves.{no_head, short_conditions, short_effects, short_surcharges, whole_entry}
use Rattle.framing.proofs.reader.Reader.entry.Goals as goal

pub returns-in_err-head : goal.returns-in_err-head
returns-in_err-head c = rw c.from_residual.ensures (no_head c.args.self.now.rest.now c.in_err-head.ensures.taken)

pub returns-in_err-skip : goal.returns-in_err-skip
returns-in_err-skip c =
    rw c.from_residual-in_err-skip.ensures
    (short_conditions c.in_ok-head.head c.args.self.now.rest.now c.head.new.self.rest.now c.in_ok-head.ensures.taken (omega (arith, c.in_err-skip.ensures)))

pub returns-in_err-skip-2 : goal.returns-in_err-skip-2
returns-in_err-skip-2 c =
    let p = c.in_ok-skip.ensures in
    rw c.from_residual-in_err-skip-2.ensures
    (short_effects c.in_ok-head.head c.args.self.now.rest.now c.head.new.self.rest.now c.in_ok-head.ensures.taken p.0 c.skip.new.self.rest.now (omega (arith, p.1)) p.2 (omega (arith, c.in_err-skip-2.ensures)))

pub returns-in_err-surcharges : goal.returns-in_err-surcharges
returns-in_err-surcharges c =
    let p = c.in_ok-skip.ensures in
    let q = c.in_ok-skip-2.ensures in
    rw c.from_residual-in_err-surcharges.ensures
    (short_surcharges c.in_ok-head.head c.args.self.now.rest.now c.head.new.self.rest.now c.in_ok-head.ensures.taken p.0 c.skip.new.self.rest.now (omega (arith, p.1)) p.2 q.0 c.skip-2.new.self.rest.now (omega (arith, q.1)) q.2 c.in_err-surcharges.ensures)

pub returns : goal.returns
returns c =
    let p = c.in_ok-skip.ensures in
    let q = c.in_ok-skip-2.ensures in
    let r = c.in_ok-surcharges.ensures in
    whole_entry c.in_ok-head.head c.args.self.now.rest.now c.head.new.self.rest.now c.in_ok-head.ensures.taken p.0 c.skip.new.self.rest.now (omega (arith, p.1)) p.2 q.0 c.skip-2.new.self.rest.now (omega (arith, q.1)) q.2 r.0 c.surcharges.new.self.rest.now r.1 r.2
