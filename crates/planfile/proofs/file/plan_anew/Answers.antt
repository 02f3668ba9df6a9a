use Rattle.std.proofs.Common.{rules}
use Rattle.diagram.specs.Means.{means}
use Rattle.rig.specs.Rigs.{contents}
use Rattle.planfile.proofs.Whole.{planned_anew}
use Rattle.planfile.proofs.file.plan_anew.Goals as goal

pub returns : goal.returns
returns c =
    record { planned = planned_anew (contents c.args.rig) (means c.in_ok-shelf.shelf) c.in_ok-sheet.sheet.items c.in_ok-shelf.ensures.opened (search rules) c.plan_rig.result c.plan_rig.ensures.tells }
