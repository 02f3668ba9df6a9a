use Rattle.std.proofs.Common.{◌≡◌, ◌<◌, length, Option, sym, ap, ◌∙◌, arith}
use Rattle.std.proofs.lemmas.List.{drop_more}
use Rattle.nodes.specs.declared.node.Node.{Node}
use Rattle.model.specs.Scenes.{Shape}
use Rattle.store.specs.Stores.{node_in, below}
use Rattle.build.proofs.reach.below.Goals as goal

pub returns-in_err-seen_at : goal.returns-in_err-seen_at
returns-in_err-seen_at c =
    let lt : c.args.level < length c.args.settings.now = omega (arith, c.if-level-settings.false) in
    c.from_residual.ensures
    ∙ sym (ap (λ (o : Option Node). (node_in o).most) c.in_err-seen_at.ensures)
    ∙ sym (ap (λ (t : Shape). below c.args.nodes.now t c.args.e) (drop_more c.args.settings.now c.args.level 0 lt))

pub returns : goal.returns
returns c =
    let lt : c.args.level < length c.args.settings.now = omega (arith, c.if-level-settings.false) in
    sym (ap (λ (o : Option Node). (node_in o).most) c.in_ok-seen_at.ensures)
    ∙ sym (ap (λ (t : Shape). below c.args.nodes.now t c.args.e) (drop_more c.args.settings.now c.args.level 0 lt))
