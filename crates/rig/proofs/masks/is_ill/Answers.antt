use Rattle.std.proofs.Common.{◌^◌, ◌≤◌, arith, pow_mono}
use Rattle.std.proofs.lemmas.Bool.Decides.{nat_tests}
use Rattle.rig.proofs.masks.is_ill.Goals as goal

pub returns-else-settings-lt8 : goal.returns-else-settings-lt8
returns-else-settings-lt8 c =
    let p : 2 ^ 8 ≤ 2 ^ c.args.settings = pow_mono c.if-settings-lt8.false in
    grind (arith, nat_tests)
