use Rattle.std.proofs.Common.{ℕ, drop, ◌∙◌, arith, rules}
use Rattle.model.proofs.Ranks.{scene_length}
use Rattle.build.specs.Grew.{nodes_in, shape_in}
use Rattle.walk.proofs.Paths.{Step, walk_never, walk_end, step_eight, step_raise, step_legal, step_value}
use Rattle.walk.proofs.+walk.Goals.{After-from}
use Rattle.walk.proofs.+walk.Goals as goal

step : (t : ℕ) (c : After-from t) → Step (nodes_in c.args.store.now) (shape_in c.args.store.now) c.args.scene.now c.args.level c.args.e c.in_ok-w.w c.node_at-node.result c.from.result
step t c = record {
  ready = c.args.store.now.ready;
  shaped = c.requires.scene;
  depth = search rules;
  legal = c.requires.legal;
  weight = c.in_ok-w.was;
  here = c.node_at-node.ensures.value;
  setting = c.from.ensures;
}

pub returns-in_err-w : goal.returns-in_err-w
returns-in_err-w t c = record { value = c.from_residual.ensures ∙ walk_never (nodes_in c.args.store.now) (drop c.args.level (shape_in c.args.store.now)) (drop c.args.level c.args.scene.now) c.args.e c.in_err-w.was }

pub returns-then-level-devices : goal.returns-then-level-devices
returns-then-level-devices t c = record { value = walk_end (nodes_in c.args.store.now) (shape_in c.args.store.now) c.args.level (drop c.args.level c.args.scene.now) c.args.e c.in_ok-w.w (c.if-level-devices.true ∙ c.devices.ensures.value) c.in_ok-w.was }

pub bounds-scene-level : goal.bounds-scene-level
bounds-scene-level t c = omega (arith, scene_length (shape_in c.args.store.now) c.args.scene.now c.requires.scene)

pub bounds-node-from : goal.bounds-node-from
bounds-node-from t c = step_eight (step t c)

pub raise-requires : goal.raise-requires
raise-requires t c = step_raise (step t (goal.at.raise-requires t c).After-from)

pub walk-requires : goal.walk-requires
walk-requires t c =
    let s = step t (goal.at.walk-requires t c).After-from in
    (search rules, (omega (arith, s.depth), (c.requires.scene, step_legal s c.raise.result c.raise.ensures)))

pub returns : goal.returns
returns t c =
    record { value = c.walk.ensures.value ∙ step_value (step t (goal.at.returns t c).After-from) c.raise.result c.raise.ensures }
