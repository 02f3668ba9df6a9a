use Rattle.std.proofs.Common.{◌∙◌, rules, tests}
use Rattle.std.proofs.lemmas.Iterator.{YieldsList-from_slice}
use Rattle.std.proofs.lemmas.Iterator.Search.{any_from_yields_List}
use Rattle.model.specs.Limits.{outside}
use Rattle.lists.proofs.Loops.{any_is_some}
use Rattle.lists.proofs.counts.some_outside.Goals as goal

pub returns : goal.returns
returns c =
    let test = outside c.args.least c.args.most in
    any_from_yields_List test _ _ _ c.any.ensures.ran (YieldsList-from_slice c.args.numbers.now cc) (λ x b q k. search (rules, tests))
    ∙ any_is_some test c.args.numbers.now
