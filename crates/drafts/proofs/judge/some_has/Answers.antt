use Rattle.std.proofs.Common.{◌∙◌, ap, sym, rules, tests}
use mathlib.Core.List.{map-map}
use Rattle.std.proofs.lemmas.Iterator.{YieldsList-from_slice}
use Rattle.std.proofs.lemmas.Iterator.Search.{any_from_yields_List}
use Rattle.lists.proofs.Loops.{any_is_some_seen}
use Rattle.model.specs.Lists.{some}
use Rattle.drafts.specs.Drafts.{tests_of, charge_of}
use Rattle.drafts.proofs.judge.some_has.Goals as goal

pub returns : goal.returns
returns g c =
    any_from_yields_List (λ x. g.flawed (tests_of x)) _ _ _ c.any.ensures.ran (YieldsList-from_slice c.args.charges.now cc) (λ x b q k. search (rules, tests, c.requires))
    ∙ any_is_some_seen g.flawed tests_of c.args.charges.now
    ∙ ap (some g.flawed) (sym (map-map (λ x. x.tests) charge_of c.args.charges.now))
