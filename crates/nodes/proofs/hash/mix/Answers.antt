use Rattle.std.proofs.Common.{◌<◌, ◌∙◌, rules}
use Rattle.std.proofs.lemmas.Fn.{serves_by}
use Rattle.std.proofs.lemmas.Iterator.{YieldsList-from_slice}
use Rattle.std.proofs.lemmas.Iterator.Consumers.{fold_from_yields_List}
use Rattle.nodes.proofs.Mixing.{step, fold_is_mixed}
use Rattle.nodes.proofs.hash.mix.Goals as goal

pub fold-requires-clause-callable : goal.fold-requires-clause-callable
fold-requires-clause-callable c =
    serves_by _ (λ _ q. q.1 < 4294967296) (λ xs q x v j r. search rules) _ _ _ _ c.requires (λ xs t q x u y e j. search rules)

pub returns : goal.returns
returns c =
    fold_from_yields_List _ step _ _ c.fold.ensures.ran (YieldsList-from_slice c.args.edges.now cc) (λ a x b q k. search rules)
    ∙ fold_is_mixed c.args.start c.args.edges.now
