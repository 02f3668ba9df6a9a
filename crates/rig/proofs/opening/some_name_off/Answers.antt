use Rattle.std.proofs.Common.{◌∙◌, rules, tests}
use Rattle.std.proofs.lemmas.Iterator.{YieldsList-from_slice}
use Rattle.std.proofs.lemmas.Iterator.Search.{any_from_yields_List}
use Rattle.lists.proofs.Loops.{any_is_some}
use Rattle.model.specs.Limits.{outside, least_byte, most_byte}
use Rattle.model.specs.Lists.{some}
use Rattle.rig.proofs.opening.some_name_off.Goals as goal

pub returns : goal.returns
returns c =
    let off = some (outside least_byte most_byte) in
    any_from_yields_List off _ _ _ c.any.ensures.ran (YieldsList-from_slice c.args.names.now cc) (λ x b q k. search (rules, tests))
    ∙ any_is_some off c.args.names.now
