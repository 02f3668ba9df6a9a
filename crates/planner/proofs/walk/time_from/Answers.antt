use Rattle.std.proofs.Common.{is_ok, ap, ◌∙◌}
use Rattle.planner.proofs.Striding.{reads_time, answered}
use Rattle.planner.proofs.walk.time_from.Goals as goal

pub unwrap-requires : goal.unwrap-requires
unwrap-requires g c = ap is_ok (answered c.at.result _ (c.at.ensures.answer ∙ reads_time (g.S.Shelf.meaning c.args.shelf.now) c.args.scene.now c.requires.hung c.requires.within))
