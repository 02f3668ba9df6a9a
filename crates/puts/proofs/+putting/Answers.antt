use Rattle.std.proofs.Common.{◌<◌, ℕ, length, get_or, Some, None, refl, sym, ap, ◌∙◌, subst, arith}
use Rattle.model.specs.Charts.{Chart}
use Rattle.build.specs.Grew.{nodes_in, shape_in, MadeIn}
use Rattle.build.proofs.Grown.{grew_none}
use Rattle.puts.proofs.Putting.{Side, put_skipped, there_raise, there_spreadable, there_is, rest_legal, rest_grew, rest_stuck, raised_timely, raised_stands}
use Rattle.puts.proofs.Kids.{Below, Way, next_legal, put_grew, put_stuck, put_more, put_makeable, made_grew, made_built, made_right}
use Rattle.puts.proofs.+putting.Goals.{put-After-from, put_below-At-loop-i}
use Rattle.puts.proofs.+putting.Goals as goal

side : (t : ℕ) (c : put-After-from t) → Side c.args.diagrams.now.store c.args.level c.args.device c.args.setting c.args.e c.in-Some.w
side t c = record {
  above = c.requires.above;
  depth = c.requires.depth;
  setting = c.requires.setting;
  legal = c.requires.legal;
  weight = c.in-Some.is;
}

pub put-returns-in_default : goal.put-returns-in_default
put-returns-in_default t c =
    let old = c.args.diagrams.now.store in
    record {
      grew = grew_none old c.args.level _;
      built = put_skipped (nodes_in old) (shape_in old) old.ready.store c.args.level c.args.device c.args.setting c.args.e c.in_default.is c.requires.legal.fine;
    }

-- at the device

pub put-raise-there-requires : goal.put-raise-there-requires
put-raise-there-requires t c = there_raise (side t (goal.at.put-raise-there-requires t c).After-from) c.node_at-node.result c.node_at-node.ensures.value (c.if-level-from.true ∙ c.from.ensures) c.from-then-level-from.result c.from-then-level-from.ensures

pub put-spread-requires : goal.put-spread-requires
put-spread-requires t c = there_spreadable (side t (goal.at.put-spread-requires t c).After-from) c.node_at-node.result c.node_at-node.ensures.value (c.if-level-from.true ∙ c.from.ensures) c.from-then-level-from.result c.from-then-level-from.ensures c.raise-there.result c.raise-there.ensures

pub put-returns-then-level-from : goal.put-returns-then-level-from
put-returns-then-level-from t c =
    let old = c.args.diagrams.now.store in
    let new = c.spread.new.self.store in
    let is = there_is (side t (goal.at.put-returns-then-level-from t c).After-from) c.node_at-node.result c.node_at-node.ensures.value (c.if-level-from.true ∙ c.from.ensures) c.from-then-level-from.result c.from-then-level-from.ensures c.raise-there.result c.raise-there.ensures in
    subst (λ (d : Chart). MadeIn old new c.args.level d c.spread.result) is c.spread.ensures

-- above it

pub put-put_below-requires : goal.put-put_below-requires
put-put_below-requires t c =
    let s = side t (goal.at.put-put_below-requires t c).After-from in
    let below : c.args.level < c.args.device = omega (arith, c.requires.above, c.if-level-from.false, c.from.ensures) in
    (omega arith, (below, (c.requires.depth, (c.requires.setting, rest_legal s))))

pub put-returns-in_err-rest : goal.put-returns-in_err-rest
put-returns-in_err-rest t c =
    let s = side t (goal.at.put-returns-in_err-rest t c).After-from in
    let new = c.put_below.new.diagrams.store in
    let got = c.in_err-rest.ensures in
    record { grew = rest_grew s new got.grew; built = rw c.from_residual.ensures (rest_stuck s new got.grew got.built) }

pub put-raise-requires : goal.put-raise-requires
put-raise-requires t c =
    let got = c.in_ok-rest.ensures in
    raised_timely (side t (goal.at.put-raise-requires t c).After-from) c.put_below.new.diagrams.store got.grew c.in_ok-rest.rest got.built

pub put-returns : goal.put-returns
put-returns t c =
    let s = side t (goal.at.put-returns t c).After-from in
    let new = c.put_below.new.diagrams.store in
    let got = c.in_ok-rest.ensures in
    record { grew = rest_grew s new got.grew; built = raised_stands s new got.grew c.in_ok-rest.rest got.built c.raise.result c.raise.ensures }

-- kid by kid

below : (t : ℕ) (c : put_below-At-loop-i t) → Below c.args.diagrams.now.store c.args.level c.args.device c.args.setting c.args.child
below t c = record {
  below = c.requires.above;
  side = record { above = omega (arith, c.requires.above); depth = c.requires.depth; setting = c.requires.setting; legal = c.requires.legal; weight = refl };
}

way : (t : ℕ) (c : put_below-At-loop-i t) → Way c.args.diagrams.now.store c.loop-i.diagrams.store c.args.level c.args.device c.args.setting c.args.child c.count-count.result c.loop-i.i c.loop-i.kids
way t c = record { begun = c.loop-i.invariant; count = c.count-count.ensures.value }

pub put_below-put-requires : goal.put_below-put-requires
put_below-put-requires t c =
    let s = below t (goal.at.put_below-put-requires t c).At-loop-i in
    let p = way t (goal.at.put_below-put-requires t c).At-loop-i in
    let same = sym p.begun.same in (
      omega (arith, c.requires.above, c.requires.depth, ap length p.begun.same),
      (
        omega (arith, c.requires.above),
        (
          subst (λ u. c.args.device < length u) same c.requires.depth,
          (
            subst (λ u. c.args.setting < get_or u c.args.device 0) same c.requires.setting,
            next_legal s c.node_at-node.ensures.value p c.loop-i-test.true,
          ),
        ),
      ),
    )

pub put_below-returns-in_err-kids : goal.put_below-returns-in_err-kids
put_below-returns-in_err-kids t c =
    let s = below t (goal.at.put_below-returns-in_err-kids t c).At-loop-i in
    let p = way t (goal.at.put_below-returns-in_err-kids t c).At-loop-i in
    let here = c.node_at-node.ensures.value in
    let new = c.put.new.diagrams.store in
    let got = c.in_err-kids.ensures in
    record {
      grew = put_grew s here p c.loop-i-test.true new got.grew;
      built = rw c.from_residual.ensures (put_stuck s here p c.loop-i-test.true new got.grew got.built);
    }

pub put_below-loop-i-preserved : goal.put_below-loop-i-preserved
put_below-loop-i-preserved t c =
    let s = below t (goal.at.put_below-loop-i-preserved t c).At-loop-i in
    let p = way t (goal.at.put_below-loop-i-preserved t c).At-loop-i in
    let got = c.in_ok-kids.ensures in
    put_more s c.node_at-node.ensures.value p c.loop-i-test.true c.put.new.diagrams.store got.grew c.in_ok-kids.field-0 got.built

-- and made of them

pub put_below-make-requires : goal.put_below-make-requires
put_below-make-requires t c =
    let s = below t (goal.at.put_below-make-requires t c).At-loop-i in
    let p = way t (goal.at.put_below-make-requires t c).At-loop-i in
    put_makeable s c.node_at-node.ensures.value p c.loop-i.auto.i-end c.loop-i-test.false

pub put_below-returns-in_err-result : goal.put_below-returns-in_err-result
put_below-returns-in_err-result t c =
    let s = below t (goal.at.put_below-returns-in_err-result t c).At-loop-i in
    let p = way t (goal.at.put_below-returns-in_err-result t c).At-loop-i in
    let here = c.node_at-node.ensures.value in
    let got = c.in_err-result.ensures in
    record {
      grew = made_grew s here p c.loop-i.auto.i-end c.loop-i-test.false got.grew;
      built = rw c.from_residual-in_err-result.ensures (made_built s here p c.loop-i.auto.i-end c.loop-i-test.false got.grew None got.built);
    }

pub put_below-remember-requires : goal.put_below-remember-requires
put_below-remember-requires t c =
    let s = below t (goal.at.put_below-remember-requires t c).At-loop-i in
    let p = way t (goal.at.put_below-remember-requires t c).At-loop-i in
    let got = c.in_ok-result.ensures in
    record { right = made_right s c.node_at-node.ensures.value p c.loop-i.auto.i-end c.loop-i-test.false got.grew c.in_ok-result.result got.built }

pub put_below-returns : goal.put_below-returns
put_below-returns t c =
    let s = below t (goal.at.put_below-returns t c).At-loop-i in
    let p = way t (goal.at.put_below-returns t c).At-loop-i in
    let here = c.node_at-node.ensures.value in
    let got = c.in_ok-result.ensures in
    rw c.remember.ensures.store (record {
      grew = made_grew s here p c.loop-i.auto.i-end c.loop-i-test.false got.grew;
      built = made_built s here p c.loop-i.auto.i-end c.loop-i-test.false got.grew (Some c.in_ok-result.result) got.built;
    })
