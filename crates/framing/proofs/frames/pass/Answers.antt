use Rattle.std.proofs.Common.{length, arith}
use Rattle.framing.specs.Frames.{Plain}
use Rattle.framing.proofs.Tests.{holds}
use Rattle.framing.proofs.Whole.{no_header, short_part, no_moves, ends}
use Rattle.framing.proofs.frames.pass.Goals as goal

pub returns-in_err-header : goal.returns-in_err-header
returns-in_err-header c = rw c.from_residual.ensures (no_header c.args.bytes.now c.in_err-header.ensures.taken)

pub returns-in_err-skip : goal.returns-in_err-skip
returns-in_err-skip c =
    rw c.from_residual-in_err-skip.ensures
    (short_part c.in_ok-header.header c.args.bytes.now c.header.new.self.rest.now c.in_ok-header.ensures.taken (omega (arith, c.in_err-skip.ensures)))

pub returns-in_err-entries : goal.returns-in_err-entries
returns-in_err-entries c =
    let p = c.in_ok-skip.ensures in
    rw c.from_residual-in_err-entries.ensures
    (no_moves c.in_ok-header.header c.args.bytes.now c.header.new.self.rest.now c.in_ok-header.ensures.taken p.0 c.skip.new.self.rest.now (omega (arith, p.1)) p.2 c.in_err-entries.ensures)

pub returns : goal.returns
returns c =
    let h = c.in_ok-header.header in
    let b = c.args.bytes.now in
    let p = c.in_ok-skip.ensures in
    let q = c.in_ok-entries.ensures in
    let plain = holds (Plain h (length b)) c.is_plain.result c.in_ok-then_some.field-0 c.is_plain.ensures c.in_ok-then_some.ensures in
    rw c.then_some-2.ensures
    (ends h b c.header.new.self.rest.now c.in_ok-header.ensures.taken p.0 c.skip.new.self.rest.now (omega (arith, p.1)) p.2 q.0 c.entries.new.self.rest.now q.1 q.2 plain c.is_empty.result c.is_empty.ensures)
