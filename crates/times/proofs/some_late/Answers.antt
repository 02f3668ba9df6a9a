use Rattle.std.proofs.Common.{◌∙◌, rules, tests}
use Rattle.std.proofs.lemmas.Iterator.{YieldsList-from_slice}
use Rattle.std.proofs.lemmas.Iterator.Search.{any_from_yields_List}
use Rattle.model.specs.Charts.{late}
use Rattle.lists.proofs.Loops.{any_is_some}
use Rattle.times.proofs.some_late.Goals as goal

pub returns : goal.returns
returns c =
    let entries = c.args.entries.now in
    record { value = any_from_yields_List late _ _ _ c.any.ensures.ran (YieldsList-from_slice entries cc) (λ x b q k. search (rules, tests)) ∙ any_is_some late entries }
