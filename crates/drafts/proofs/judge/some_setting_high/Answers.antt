use Rattle.std.proofs.Common.{◌∙◌, rules, tests}
use Rattle.std.proofs.lemmas.Iterator.{YieldsList-from_slice}
use Rattle.std.proofs.lemmas.Iterator.Search.{any_from_yields_List}
use Rattle.lists.proofs.Loops.{any_is_some_seen}
use Rattle.model.specs.Calls.{setting_high}
use Rattle.moves.specs.Views.{pair_of}
use Rattle.drafts.proofs.judge.some_setting_high.Goals as goal

pub returns : goal.returns
returns c =
    let high = setting_high c.args.settings.now in
    any_from_yields_List (λ p. high (pair_of p)) _ _ _ c.any.ensures.ran (YieldsList-from_slice c.args.pairs.now cc) (λ x b q k. search (rules, tests))
    ∙ any_is_some_seen high pair_of c.args.pairs.now
