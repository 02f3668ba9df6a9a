use Rattle.std.proofs.Common.{◌+◌, ◌<◌, ℕ, length, drop, rules}
use Rattle.build.proofs.Steps.{grows_none}
use Rattle.dials.specs.Flats.{flat}
use Rattle.dials.proofs.Turns.{flat_long, flat_timely, flat_leaf, flat_spread}
use Rattle.lent.proofs.Growing.{ready_after}
use Rattle.lent.proofs.Levels.{Turn, turn_none, turn_spreadable, turn_made}
use Rattle.lent.proofs.constants.+constant.Goals.{After-constant}
use Rattle.lent.proofs.constants.+constant.Goals as goal

turn : (t : ℕ) (c : After-constant t) → Turn c.args.nodes.now c.constant.new.nodes c.args.settings.now c.args.level (flat (drop (c.args.level + 1) c.args.settings.now) c.args.entry) (flat (drop c.args.level c.args.settings.now) c.args.entry)
turn t c =
    let shape = c.args.settings.now in
    let l = c.args.level in
    let lt : l < length shape = search rules in
    record {
      ready = c.requires.ready;
      depth = lt;
      long = flat_long (drop (l + 1) shape) c.args.entry;
      timely = flat_timely (drop (l + 1) shape) c.args.entry c.requires.timely;
      is = flat_spread shape l c.args.entry lt;
      grows = c.constant.ensures.grows;
    }

pub returns-then-level-settings : goal.returns-then-level-settings
returns-then-level-settings t c =
    let old = c.args.nodes.now in
    let shape = c.args.settings.now in
    let l = c.args.level in
    record {
      grows = grows_none old shape l (flat (drop l shape) c.args.entry) c.requires.ready;
      built = flat_leaf old shape l c.args.entry c.if-level-settings.true;
    }

pub returns-in_err-kid : goal.returns-in_err-kid
returns-in_err-kid t c = turn_none (turn t (goal.at.returns-in_err-kid t c).After-constant) c.from_residual.result c.from_residual.ensures c.in_err-kid.ensures.built

pub spread-requires : goal.spread-requires
spread-requires t c = record {
  ready = ready_after c.requires.ready c.constant.ensures.grows;
  spreadable = turn_spreadable (turn t (goal.at.spread-requires t c).After-constant) c.in_ok-kid.kid c.in_ok-kid.ensures.built;
}

pub returns : goal.returns
returns t c = turn_made (turn t (goal.at.returns t c).After-constant) c.in_ok-kid.kid c.in_ok-kid.ensures.built c.spread.new.nodes c.spread.result c.spread.ensures
