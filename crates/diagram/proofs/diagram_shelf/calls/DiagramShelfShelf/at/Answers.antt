use Rattle.std.proofs.Common.{sym}
use Rattle.std.proofs.lemmas.Result.{err_from_is_err_and}
use Rattle.diagram.proofs.Calls.{read_refused, scene_is}
use Rattle.diagram.proofs.diagram_shelf.calls.DiagramShelfShelf.at.Goals as goal

pub returns-in_err-edge : goal.returns-in_err-edge
returns-in_err-edge c =
    let s = c.args.self.now in
    let p = err_from_is_err_and c.from_residual-in_err-edge.result c.from_residual-in_err-edge.ensures.1 in
    let scene = rw c.shape.ensures.answer at c.in_ok-judge_scene.ensures.answer in
    record { answer = rw (p.1, p.2) (sym (read_refused s c.args.peg c.args.scene.now _ scene c.in_err-edge.ensures)) }

pub walk-requires-clause-scene : goal.walk-requires-clause-scene
walk-requires-clause-scene c = scene_is _ c.args.scene.now (rw c.shape.ensures.answer at c.in_ok-judge_scene.ensures.answer)
