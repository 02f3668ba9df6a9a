use Rattle.std.proofs.Common.{ℕ, ◌%◌, ◌^◌, ◌<◌, ◌≤◌, eqb, sym, ap, ◌∙◌, arith, pow_mono}
use native.Mathlib.Nat.{div-eq_of_lt}
use Rattle.std.proofs.lemmas.Bool.{le-ltb}
use Rattle.moves.proofs.masks.admits.Goals as goal

pub returns-else-setting-lt8 : goal.returns-else-setting-lt8
returns-else-setting-lt8 c =
    let p : 2 ^ 8 ≤ 2 ^ c.args.setting = pow_mono c.if-setting-lt8.false in
    let l : c.args.mask < 2 ^ c.args.setting = omega arith in
    le-ltb c.args.setting 8 c.if-setting-lt8.false ∙ sym (ap (λ (q : ℕ). eqb (q % 2) 1) (div-eq_of_lt l))
