use Rattle.std.proofs.Common.{◌∙◌, rules, tests}
use Rattle.std.proofs.lemmas.Iterator.{YieldsList-from_slice, YieldsList-from_zip}
use Rattle.std.proofs.lemmas.Iterator.Search.{any_from_yields_List}
use Rattle.model.specs.Masks.{ill}
use Rattle.lists.proofs.Loops.{any_is_some_two}
use Rattle.rig.proofs.masks.some_ill.Goals as goal

pub returns : goal.returns
returns c =
    let ms = c.args.masks.now in
    let ns = c.args.settings.now in
    any_from_yields_List (λ p. ill p.0 p.1) c.any.new.self _ _ c.any.ensures.ran (YieldsList-from_zip (YieldsList-from_slice ms cc) (YieldsList-from_slice ns cc)) (λ x b q k. search (rules, tests))
    ∙ any_is_some_two ill ms ns
