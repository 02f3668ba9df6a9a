use Rattle.std.proofs.Common.{◌≡◌, ◌-◌, ◌<◌, ◌+◌, ℕ, suc, drop, refl, sym, ap, ◌∙◌, subst, arith}
use Rattle.store.specs.Stores.{chart, Fine}
use Rattle.store.proofs.Canon.{knows}
use Rattle.model.specs.Scenes.{size}
use Rattle.build.specs.Grew.{nodes_in, shape_in}
use Rattle.build.proofs.Grown.{grew_none}
use Rattle.dials.specs.Flats.{lifted}
use Rattle.dials.proofs.Lifts.{Turn, lifted_long, lifted_timely, turn_early, turn_none, turn_spreadable, turn_grew, turn_built}
use Rattle.dials.proofs.+lift.Goals.{After-lift}
use Rattle.dials.proofs.+lift.Goals as goal

turn : (t : ℕ) (c : After-lift t) → Turn c.args.store.now c.lift.new.store c.args.level (lifted (shape_in c.args.store.now) (c.args.level + 1) (c.args.from - (c.args.level + 1)) (chart (nodes_in c.args.store.now) (drop c.args.from (shape_in c.args.store.now)) c.args.e)) (lifted (shape_in c.args.store.now) c.args.level (c.args.from - c.args.level) (chart (nodes_in c.args.store.now) (drop c.args.from (shape_in c.args.store.now)) c.args.e))
turn t c =
    let old = c.args.store.now in
    let shape = shape_in old in
    let l = c.args.level in
    let v = c.args.from in
    let top = chart (nodes_in old) (drop v shape) c.args.e in
    let below : l < v = omega (arith, c.requires.above, c.if-level-from.false) in
    let more : suc (v - (l + 1)) ≡ v - l = omega (arith, below) in
    let all : v ≡ l + 1 + (v - (l + 1)) = omega (arith, below) in
    record {
      depth = omega (arith, below, c.requires.depth);
      long = lifted_long shape (v - (l + 1)) (l + 1) top (omega (arith, all, c.requires.depth)) ((knows (nodes_in old) shape old.ready.store (drop v shape) v c.args.e refl c.requires.legal.fine).long ∙ ap (λ j. size (drop j shape)) all);
      timely = lifted_timely shape (v - (l + 1)) (l + 1) top c.requires.legal.timely;
      is = ap (λ k. lifted shape l k top) more;
      grew = c.lift.ensures.grew;
    }

pub returns-then-level-from : goal.returns-then-level-from
returns-then-level-from t c =
    let old = c.args.store.now in
    let nodes = nodes_in old in
    let shape = shape_in old in
    let l = c.args.level in
    let v = c.args.from in
    let same = c.if-level-from.true in
    let top = chart nodes (drop v shape) c.args.e in
    let none : 0 ≡ v - l = omega (arith, same) in
    record {
      grew = grew_none old l (lifted shape l (v - l) top);
      built = (subst (λ j. Fine nodes (drop j shape) j c.args.e) (sym same) c.requires.legal.fine, ap (λ j. chart nodes (drop j shape) c.args.e) same ∙ ap (λ k. lifted shape l k top) none);
    }

pub returns-in_err-kid : goal.returns-in_err-kid
returns-in_err-kid t c =
    let s = turn t (goal.at.returns-in_err-kid t c).After-lift in
    record {
      grew = turn_early s;
      built = turn_none s c.from_residual.result c.from_residual.ensures c.in_err-kid.ensures.built;
    }

pub spread-requires : goal.spread-requires
spread-requires t c = turn_spreadable (turn t (goal.at.spread-requires t c).After-lift) c.in_ok-kid.kid c.in_ok-kid.ensures.built

pub returns : goal.returns
returns t c =
    let s = turn t (goal.at.returns t c).After-lift in
    let kid = c.in_ok-kid.kid in
    let stands = c.in_ok-kid.ensures.built in
    let new = c.spread.new.self in
    record {
      grew = turn_grew s kid stands new c.spread.ensures.grew;
      built = turn_built s kid stands new c.spread.result c.spread.ensures.built;
    }
