use Rattle.std.proofs.Common.{◌≡◌, ◌-◌, drop, ap, ◌∙◌, arith}
use Rattle.model.specs.Charts.{dialled, late}
use Rattle.model.specs.Lists.{some}
use Rattle.build.specs.Grew.{shape_in}
use Rattle.dials.proofs.Turns.{dial_long, dial_timely}
use Rattle.dials.proofs.Lifts.{Lift, dial_lifted, lift_early, lift_none, lift_legal, lift_grew, lift_built}
use Rattle.dials.proofs.dial.Goals.{After-fan}
use Rattle.dials.proofs.dial.Goals as goal

fanned : (c : After-fan) → Lift c.args.store.now c.fan.new.store c.args.level c.args.device (dialled (drop c.args.device (shape_in c.args.store.now)) 0 c.args.entries.now) (dialled (drop c.args.level (shape_in c.args.store.now)) (c.args.device - c.args.level) c.args.entries.now)
fanned c =
    let shape = shape_in c.args.store.now in
    let v = c.args.device in
    let es = c.args.entries.now in
    let none : 0 ≡ v - v = omega arith in
    record {
      above = c.requires.above;
      depth = omega (arith, c.requires.depth);
      long = dial_long (drop v shape) 0 es;
      timely = ap (λ k. some late (dialled (drop v shape) k es)) none ∙ dial_timely shape v v es (omega arith) c.requires.depth c.requires.timely;
      is = dial_lifted shape c.args.level v es c.requires.above c.requires.depth;
      grew = c.fan.ensures.grew;
    }

pub returns-in_err-fanned : goal.returns-in_err-fanned
returns-in_err-fanned c =
    let s = fanned (goal.at.returns-in_err-fanned c).After-fan in
    record {
      grew = lift_early s;
      built = lift_none s c.from_residual.result c.from_residual.ensures c.in_err-fanned.ensures.built;
    }

pub lift-requires-clause-legal : goal.lift-requires-clause-legal
lift-requires-clause-legal c = lift_legal (fanned (goal.at.lift-requires-clause-legal c).After-fan) c.in_ok-fanned.fanned c.in_ok-fanned.ensures.built

pub returns : goal.returns
returns c =
    let s = fanned (goal.at.returns c).After-fan in
    record {
      grew = lift_grew s c.in_ok-fanned.fanned c.in_ok-fanned.ensures.built c.lift.new.store c.lift.ensures.grew;
      built = lift_built s c.in_ok-fanned.fanned c.in_ok-fanned.ensures.built c.lift.new.store c.lift.result c.lift.ensures.built;
    }
