use Rattle.std.proofs.Common.{◌∙◌, rules, tests}
use Rattle.std.proofs.lemmas.Iterator.{YieldsList-from_slice}
use Rattle.std.proofs.lemmas.Iterator.Search.{all_from_yields_List}
use Rattle.lists.proofs.Loops.{all_is_every_seen}
use Rattle.model.specs.Moves.{holds}
use Rattle.moves.specs.Views.{pair_of}
use Rattle.moves.proofs.scene.every_holds.Goals as goal

pub returns : goal.returns
returns c =
    let held = holds c.args.scene.now in
    all_from_yields_List (λ p. held (pair_of p)) _ _ _ c.all.ensures.ran (YieldsList-from_slice c.args.pairs.now cc) (λ x b q k. search (rules, tests))
    ∙ all_is_every_seen held pair_of c.args.pairs.now
