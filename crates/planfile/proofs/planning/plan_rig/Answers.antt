use Rattle.std.proofs.Common.{sym, subst}
use Rattle.show.specs.Shows.{Planning}
use Rattle.planfile.proofs.planning.plan_rig.Goals as goal

pub tell-requires : goal.tell-requires
tell-requires g c =
    record { made = (c.args.shelf, c.args.sheet, subst (λ d. Planning g.S.Shelf.meaning d c.args.shelf c.args.sheet c.call.new.cue) (sym c.call.ensures.left) c.call.ensures.answer) }
