use Rattle.std.proofs.Common.{ℕ, ◌+◌, [], ◌∷◌, ◌++◌, sym, ap, ◌∙◌, arith}
use Rattle.std.proofs.lemmas.List.{length_push}
use Rattle.format.specs.Files.{surcharge}
use Rattle.format.proofs.Parts.{surcharge_prefix}
use Rattle.framing.proofs.Moves.{stuck, grown}
use Rattle.framing.proofs.reader.Reader.surcharges.Goals as goal

pub returns-in_err-surcharge : goal.returns-in_err-surcharge
returns-in_err-surcharge c = rw c.from_residual.ensures (λ xs t n e.
    stuck surcharge surcharge_prefix c.loop.invariant.0 xs c.loop.self.rest.now t (omega (arith, c.loop.invariant.1, n, c.loop-test.true)) (sym c.loop.invariant.2 ∙ e) c.in_err-surcharge.ensures)

pub loop-preserved : goal.loop-preserved
loop-preserved c =
    let p = c.in_ok-surcharge.ensures in (
      c.loop.invariant.0 ++ p.0 ∷ [],
      length_push c.loop.invariant.0 p.0 ∙ ap (λ (n : ℕ). n + 1) c.loop.invariant.1,
      grown surcharge c.loop.invariant.0 p.0 _ _ _ c.loop.invariant.2 p.2,
    )
