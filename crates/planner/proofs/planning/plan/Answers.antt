use Rattle.std.proofs.Common.{sym, ap, ◌∙◌, subst}
use Rattle.rig.specs.Rigs.{contents}
use Rattle.planner.specs.Plans.{cleared, Found}
use Rattle.planner.proofs.Outcomes.{planned, same_by_ne}
use Rattle.planner.proofs.planning.plan.Goals as goal

pub returns : goal.returns
returns g c =
    let rig = contents c.args.rig.now in
    let m = g.S.Shelf.meaning c.args.shelf.now in
    let same = sym c.shape.ensures.answer ∙ same_by_ne c.shape.result.now c.settings.result.now c.ne.result c.ne.ensures c.if-ne.false ∙ c.settings.ensures.value in
    let bare = c.clear.ensures.left in
    record {
      planned = planned rig m c.args.sheet.now same c.search-answer.result (g.S.Shelf.meaning c.clear-2.new.shelf) c.search-answer.new.sheet
          (c.clear-2.ensures.left ∙ c.search-answer.ensures.left ∙ ap cleared bare)
          (subst (λ k. Found rig k c.args.sheet.now c.search-answer.result c.search-answer.new.sheet) bare c.search-answer.ensures.found);
    }
