use Rattle.std.proofs.Common.{◌≡◌, ℕ, Ok, Result, rules}
use Rattle.model.specs.Calls.{wants}
use Rattle.theory.proofs.Counting.{counted}
use Rattle.rig.specs.Rigs.{contents}
use Rattle.rig.proofs.frame.Rig.want.Goals as goal

pub returns-clause-counted : goal.returns-clause-counted
returns-clause-counted c =
    let answer : ◌≡◌ {A = Result ℕ ℕ} (Ok c.product.result) (wants (contents c.args.self.now) c.args.masks.now) = search rules in
    counted (contents c.args.self.now) c.args.masks.now (Ok c.product.result) answer
