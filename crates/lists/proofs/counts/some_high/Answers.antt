use Rattle.std.proofs.Common.{leb, ◌∙◌, rules, tests}
use Rattle.std.proofs.lemmas.Iterator.{YieldsList-from_slice, YieldsList-from_zip}
use Rattle.std.proofs.lemmas.Iterator.Search.{any_from_yields_List}
use Rattle.lists.proofs.Loops.{any_is_some_two}
use Rattle.lists.proofs.counts.some_high.Goals as goal

pub returns : goal.returns
returns c =
    let ns = c.args.settings.now in
    let s = c.args.scene.now in
    any_from_yields_List (λ p. leb p.0 p.1) c.any.new.self _ _ c.any.ensures.ran (YieldsList-from_zip (YieldsList-from_slice ns cc) (YieldsList-from_slice s cc)) (λ x b q k. search (rules, tests))
    ∙ any_is_some_two leb ns s
