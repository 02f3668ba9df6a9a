use Rattle.std.proofs.Common.{ℕ, ◌+◌, List, [], ◌∷◌, ◌++◌, sym, ap, ◌∙◌, arith}
use Rattle.std.specs.List.{flat_map}
use Rattle.std.proofs.lemmas.List.{length_push}
use Rattle.format.specs.Files.{entry}
use Rattle.format.proofs.Parts.{entry_prefix}
use Rattle.framing.specs.Reading.{Follows, after}
use Rattle.framing.proofs.Tests.{holds, fails}
use Rattle.framing.proofs.Moves.{stuck, grown, falls, rising_push, after_push, high_enough, too_low}
use Rattle.framing.proofs.reader.Reader.entries.Goals as goal

pub returns-in_err-number : goal.returns-in_err-number
returns-in_err-number c =
    rw c.from_residual.ensures
    (λ xs t n e. stuck entry entry_prefix c.loop.invariant.0 xs c.loop.self.rest.now t (omega (arith, c.loop.invariant.1, n.0, c.loop-test.true)) (sym c.loop.invariant.2 ∙ e) c.in_err-number.ensures)

pub returns-in_err-then_some : goal.returns-in_err-then_some
returns-in_err-then_some c =
    let p = c.in_ok-number.ensures in
    let es = c.loop.invariant.0 in
    let no = fails (Follows c.loop.last c.in_ok-number.number) c.follows.result c.follows.ensures c.in_err-then_some.ensures in
    let low = too_low c.loop.last (after 0 es) c.in_ok-number.number c.loop.invariant.4 no in
    rw c.from_residual-in_err-then_some.ensures
    (λ xs t n e. falls 0 es xs p.0 c.entry.new.self.rest.now t (omega (arith, c.loop.invariant.1, n.0, c.loop-test.true))
    (sym (ap (λ (u : List ℕ). flat_map entry es ++ u) p.2) ∙ sym c.loop.invariant.2 ∙ e)
    (omega (arith, p.1, low)) n.1)

pub loop-preserved : goal.loop-preserved
loop-preserved c =
    let p = c.in_ok-number.ensures in
    let es = c.loop.invariant.0 in
    let yes = holds (Follows c.loop.last c.in_ok-number.number) c.follows.result c.in_ok-then_some.field-0 c.follows.ensures c.in_ok-then_some.ensures in
    let high = high_enough c.loop.last (after 0 es) c.in_ok-number.number c.loop.invariant.4 yes in (
      es ++ p.0 ∷ [],
      length_push es p.0 ∙ ap (λ (n : ℕ). n + 1) c.loop.invariant.1,
      grown entry es p.0 _ _ _ c.loop.invariant.2 p.2,
      rising_push 0 es p.0 c.loop.invariant.3 (omega (arith, p.1, high)),
      after_push 0 es p.0 ∙ ap (λ (n : ℕ). n + 1) p.1,
    )
