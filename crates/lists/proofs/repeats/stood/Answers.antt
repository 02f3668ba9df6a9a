use Rattle.std.proofs.Common.{◌∙◌, take, ap, rules, tests}
use Rattle.std.proofs.lemmas.Iterator.{YieldsList-from_slice}
use Rattle.std.proofs.lemmas.Iterator.Search.{any_from_yields_List}
use Rattle.model.specs.Lists.{some}
use Rattle.lists.proofs.Loops.{any_is_some}
use Rattle.lists.proofs.Repeating.{stood_of}
use Rattle.lists.proofs.repeats.stood.Goals as goal

pub returns : goal.returns
returns g c =
    let before = take c.args.i c.args.items.now in
    let item = c.index-items-i.result in
    let test = λ (y : g.row.T.Denot). g.T.Keyed.same y item in
    any_from_yields_List test _ _ _ c.any.ensures.ran (YieldsList-from_slice before cc) (λ x b q k. search (rules, tests))
    ∙ any_is_some test before
    ∙ ap (λ v. some (λ y. g.T.Keyed.same y v) before) c.index-items-i.is
    ∙ stood_of g.T.Keyed.same c.args.items.now c.args.i item c.requires
