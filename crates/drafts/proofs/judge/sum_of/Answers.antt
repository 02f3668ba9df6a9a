use Rattle.std.proofs.Common.{◌∙◌, arith, rules}
use Rattle.std.proofs.lemmas.Iterator.{YieldsList-from_slice}
use Rattle.std.proofs.lemmas.Iterator.Consumers.{fold_from_yields_List}
use Rattle.drafts.proofs.Adding.{step, fold_is_total}
use Rattle.drafts.proofs.judge.sum_of.Goals as goal

pub returns : goal.returns
returns c =
    fold_from_yields_List _ step _ _ c.fold.ensures.ran (YieldsList-from_slice c.args.charges.now cc) (λ a x b q k. search rules)
    ∙ rw c.from.ensures (fold_is_total c.args.base c.args.charges.now (omega (arith, c.ranges.base.fits)))
