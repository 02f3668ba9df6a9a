use Rattle.std.proofs.Common.{sym, ◌∙◌, arith}
use Rattle.std.proofs.lemmas.List.{length-map}
use Rattle.lists.specs.Shorts.{listed}
use Rattle.drafts.specs.Drafts.{charge_of, charges_of}
use Rattle.format.specs.Files.{surcharge}
use Rattle.format.proofs.Parts.{surcharge_prefix}
use Rattle.framing.proofs.Moves.{stuck}
use Rattle.rigfile.proofs.taker.Taker.charges.Goals as goal

pub returns-in_err-charge : goal.returns-in_err-charge
returns-in_err-charge c =
    let done = listed c.loop.charges in
    rw c.from_residual.ensures
    (λ xs t n e. stuck surcharge surcharge_prefix (charges_of done) xs c.loop.self.reader.rest.now t (omega (arith, length-map done charge_of, c.loop.invariant.0, n, c.loop-test.true)) (sym c.loop.invariant.1 ∙ e) c.in_err-charge.ensures)
