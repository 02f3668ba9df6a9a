use Rattle.std.proofs.Common.{◌∙◌, rules, tests}
use Rattle.std.proofs.lemmas.Iterator.{YieldsList-from_slice}
use Rattle.std.proofs.lemmas.Iterator.Search.{any_from_yields_List}
use Rattle.lists.proofs.Loops.{any_is_some_seen}
use Rattle.drafts.specs.Drafts.{charge_of}
use Rattle.drafts.specs.Flaws.{free}
use Rattle.drafts.proofs.judge.some_free.Goals as goal

pub returns : goal.returns
returns c =
    any_from_yields_List (λ x. free (charge_of x)) _ _ _ c.any.ensures.ran (YieldsList-from_slice c.args.charges.now cc) (λ x b q k. search (rules, tests))
    ∙ any_is_some_seen free charge_of c.args.charges.now
