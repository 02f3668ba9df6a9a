use Rattle.std.proofs.Common.{◌+◌, ◌-◌, ◌<◌, ℕ, drop, arith}
use Rattle.model.specs.Charts.{dialled}
use Rattle.dials.proofs.Turns.{dial_long, dial_spread, dial_timely}
use Rattle.lent.proofs.Growing.{ready_after}
use Rattle.lent.proofs.Levels.{Turn, turn_none, turn_spreadable, turn_made}
use Rattle.lent.proofs.dialling.+dial.Goals.{After-dial}
use Rattle.lent.proofs.dialling.+dial.Goals as goal

turn : (t : ℕ) (c : After-dial t) → Turn c.args.nodes.now c.dial.new.nodes c.args.settings.now c.args.level (dialled (drop (c.args.level + 1) c.args.settings.now) (c.args.device - (c.args.level + 1)) c.args.entries.now) (dialled (drop c.args.level c.args.settings.now) (c.args.device - c.args.level) c.args.entries.now)
turn t c =
    let shape = c.args.settings.now in
    let l = c.args.level in
    let v = c.args.device in
    let es = c.args.entries.now in
    let below : l < v = omega (arith, c.requires.above, c.if-level-device.false) in
    record {
      ready = c.requires.ready;
      depth = omega (arith, c.requires.above, c.requires.depth);
      long = dial_long (drop (l + 1) shape) (v - (l + 1)) es;
      timely = dial_timely shape (l + 1) v es (omega (arith, below)) c.requires.depth c.requires.timely;
      is = dial_spread shape l v es below c.requires.depth;
      grows = c.dial.ensures.grows;
    }

pub returns-in_err-kid : goal.returns-in_err-kid
returns-in_err-kid t c = turn_none (turn t (goal.at.returns-in_err-kid t c).After-dial) c.from_residual.result c.from_residual.ensures c.in_err-kid.ensures.built

pub spread-requires : goal.spread-requires
spread-requires t c = record {
  ready = ready_after c.requires.ready c.dial.ensures.grows;
  spreadable = turn_spreadable (turn t (goal.at.spread-requires t c).After-dial) c.in_ok-kid.kid c.in_ok-kid.ensures.built;
}

pub returns : goal.returns
returns t c = turn_made (turn t (goal.at.returns t c).After-dial) c.in_ok-kid.kid c.in_ok-kid.ensures.built c.spread.new.nodes c.spread.result c.spread.ensures
