use Rattle.std.proofs.Common.{◌≡◌, ℕ, ◌-◌, ◌^◌, ap, ◌∙◌, arith}
use Rattle.std.proofs.lemmas.Nat.Bits.{ones_shr}
use Rattle.rig.proofs.open.mask_of_all.Goals as goal

pub returns : goal.returns
returns c =
    let n = c.args.settings in
    let same : 8 - (8 - n) ≡ n = omega arith in
    ones_shr 8 (8 - n) (omega arith) ∙ ap (λ (k : ℕ). 2 ^ k - 1) same
