use Rattle.std.proofs.Common.{ℕ, drop, ◌∙◌, arith, rules}
use Rattle.model.proofs.Ranks.{scene_length}
use Rattle.walk.proofs.Paths.{Step, walk_never, walk_end, step_eight, step_raise, step_legal, step_value}
use Rattle.lent.proofs.paths.+walk.Goals.{After-from}
use Rattle.lent.proofs.paths.+walk.Goals as goal

step : (t : ℕ) (c : After-from t) → Step c.args.nodes.now c.args.settings.now c.args.scene.now c.args.level c.args.e c.in_ok-w.w c.node_at-node.result c.from.result
step t c = record {
  ready = c.requires.ready;
  shaped = c.requires.scene;
  depth = search rules;
  legal = record { fine = c.requires.fine; timely = c.requires.timely };
  weight = c.in_ok-w.was;
  here = c.node_at-node.ensures;
  setting = c.from.ensures;
}

pub returns-in_err-w : goal.returns-in_err-w
returns-in_err-w t c = record { value = c.from_residual.ensures ∙ walk_never c.args.nodes.now (drop c.args.level c.args.settings.now) (drop c.args.level c.args.scene.now) c.args.e c.in_err-w.was }

pub returns-then-level-settings : goal.returns-then-level-settings
returns-then-level-settings t c = record { value = walk_end c.args.nodes.now c.args.settings.now c.args.level (drop c.args.level c.args.scene.now) c.args.e c.in_ok-w.w c.if-level-settings.true c.in_ok-w.was }

pub bounds-scene-level : goal.bounds-scene-level
bounds-scene-level t c = omega (arith, scene_length c.args.settings.now c.args.scene.now c.requires.scene)

pub bounds-node-from : goal.bounds-node-from
bounds-node-from t c = step_eight (step t c)

pub raise-requires : goal.raise-requires
raise-requires t c = step_raise (step t (goal.at.raise-requires t c).After-from)

pub walk-requires : goal.walk-requires
walk-requires t c =
    let s = step t (goal.at.walk-requires t c).After-from in
    let legal = step_legal s c.raise.result c.raise.ensures in
    (search rules, (omega (arith, s.depth), (c.requires.scene, (c.requires.ready, (legal.fine, legal.timely)))))

pub returns : goal.returns
returns t c =
    record { value = c.walk.ensures.value ∙ step_value (step t (goal.at.returns t c).After-from) c.raise.result c.raise.ensures }
