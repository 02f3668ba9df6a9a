use Rattle.std.proofs.Common.{◌<◌, ℕ, Some, None, refl, ◌∙◌, subst, arith}
use Rattle.model.specs.Charts.{Chart}
use Rattle.build.specs.Builds.{Made}
use Rattle.build.proofs.Steps.{grows_none}
use Rattle.memo.proofs.Keeps.{knows_kept, knows_added}
use Rattle.puts.proofs.Putting.{put_skipped}
use Rattle.lent.proofs.Growing.{ready_after}
use Rattle.lent.proofs.Recalls.{recalled_right}
use Rattle.lent.proofs.Puts.{Side, there_raise, there_spreadable, there_is, rest_legal, rest_grows, rest_stuck, raised_timely, raised_stands}
use Rattle.lent.proofs.Kids.{Below, Way, next_legal, put_none, put_more, put_makeable, put_made, put_right}
use Rattle.lent.proofs.putting.+putting.Goals.{put-After-from, put_below-At-loop-i}
use Rattle.lent.proofs.putting.+putting.Goals as goal

side : (t : ℕ) (c : put-After-from t) → Side c.args.nodes.now c.args.settings.now c.args.level c.args.device c.args.setting c.args.e c.in-Some.w
side t c = record {
  ready = c.requires.ready;
  above = c.requires.above;
  depth = c.requires.depth;
  setting = c.requires.setting;
  legal = c.requires.legal;
  weight = c.in-Some.is;
}

pub put-returns-in_default : goal.put-returns-in_default
put-returns-in_default t c =
    let old = c.args.nodes.now in
    let shape = c.args.settings.now in
    record {
      made = record {
        grows = grows_none old shape c.args.level _ c.requires.ready;
        built = put_skipped old shape c.requires.ready.store c.args.level c.args.device c.args.setting c.args.e c.in_default.is c.requires.legal.fine;
      };
      knows = c.requires.knows;
    }

-- at the device

pub put-raise-there-requires : goal.put-raise-there-requires
put-raise-there-requires t c = there_raise (side t (goal.at.put-raise-there-requires t c).After-from) c.node_at-node.result c.node_at-node.ensures (c.if-level-from.true ∙ c.from.ensures) c.from-then-level-from.result c.from-then-level-from.ensures

pub put-spread-requires : goal.put-spread-requires
put-spread-requires t c = record {
  ready = c.requires.ready;
  spreadable = there_spreadable (side t (goal.at.put-spread-requires t c).After-from) c.node_at-node.result c.node_at-node.ensures (c.if-level-from.true ∙ c.from.ensures) c.from-then-level-from.result c.from-then-level-from.ensures c.raise-there.result c.raise-there.ensures;
}

pub put-returns-then-level-from : goal.put-returns-then-level-from
put-returns-then-level-from t c =
    let old = c.args.nodes.now in
    let new = c.spread.new.nodes in
    let shape = c.args.settings.now in
    let is = there_is (side t (goal.at.put-returns-then-level-from t c).After-from) c.node_at-node.result c.node_at-node.ensures (c.if-level-from.true ∙ c.from.ensures) c.from-then-level-from.result c.from-then-level-from.ensures c.raise-there.result c.raise-there.ensures in
    record {
      made = subst (λ (d : Chart). Made old new shape c.args.level d c.spread.result) is c.spread.ensures;
      knows = knows_kept old new c.spread.ensures.grows.kept shape c.requires.ready.store c.args.memo.now c.requires.knows;
    }

-- above it

pub put-put_below-requires : goal.put-put_below-requires
put-put_below-requires t c =
    let s = side t (goal.at.put-put_below-requires t c).After-from in
    let below : c.args.level < c.args.device = omega (arith, c.requires.above, c.if-level-from.false, c.from.ensures) in
    (omega arith, (below, (c.requires.depth, (c.requires.setting, (c.requires.ready, (c.requires.knows, rest_legal s))))))

pub put-returns-in_err-rest : goal.put-returns-in_err-rest
put-returns-in_err-rest t c =
    let s = side t (goal.at.put-returns-in_err-rest t c).After-from in
    let new = c.put_below.new.nodes in
    let got = c.in_err-rest.ensures in
    record {
      made = record { grows = rest_grows s new got.made.grows; built = rw c.from_residual.ensures (rest_stuck s new got.made.grows got.made.built) };
      knows = got.knows;
    }

pub put-raise-requires : goal.put-raise-requires
put-raise-requires t c =
    let got = c.in_ok-rest.ensures in
    raised_timely (side t (goal.at.put-raise-requires t c).After-from) c.put_below.new.nodes got.made.grows c.in_ok-rest.rest got.made.built

pub put-returns : goal.put-returns
put-returns t c =
    let s = side t (goal.at.put-returns t c).After-from in
    let new = c.put_below.new.nodes in
    let got = c.in_ok-rest.ensures in
    record {
      made = record { grows = rest_grows s new got.made.grows; built = raised_stands s new got.made.grows c.in_ok-rest.rest got.made.built c.raise.result c.raise.ensures };
      knows = got.knows;
    }

-- kid by kid

pub put_below-returns-in-Some : goal.put_below-returns-in-Some
put_below-returns-in-Some t c = record {
  made = record { grows = grows_none c.args.nodes.now c.args.settings.now c.args.level _ c.requires.ready; built = (recalled_right c.requires.knows c.in-Some.ensures).stands };
  knows = c.requires.knows;
}

below : (t : ℕ) (c : put_below-At-loop-i t) → Below c.args.nodes.now c.args.settings.now c.args.level c.args.device c.args.setting c.args.child
below t c = record {
  below = c.requires.above;
  side = record { ready = c.requires.ready; above = omega (arith, c.requires.above); depth = c.requires.depth; setting = c.requires.setting; legal = c.requires.legal; weight = refl };
}

way : (t : ℕ) (c : put_below-At-loop-i t) → Way c.args.nodes.now c.loop-i.nodes c.args.settings.now c.args.level c.args.device c.args.setting c.args.child c.from-count.result c.loop-i.i c.loop-i.kids
way t c = record { begun = c.loop-i.invariant.way; count = c.from-count.ensures }

pub put_below-put-requires : goal.put_below-put-requires
put_below-put-requires t c =
    let s = below t (goal.at.put_below-put-requires t c).At-loop-i in
    let p = way t (goal.at.put_below-put-requires t c).At-loop-i in
    (omega (arith, c.requires.above, c.requires.depth), (omega (arith, c.requires.above), (c.requires.depth, (c.requires.setting, (ready_after c.requires.ready p.begun.grows, (c.loop-i.invariant.knows, next_legal s c.node_at-node.ensures p c.loop-i-test.true))))))

pub put_below-returns-in_err-kids : goal.put_below-returns-in_err-kids
put_below-returns-in_err-kids t c =
    let s = below t (goal.at.put_below-returns-in_err-kids t c).At-loop-i in
    let p = way t (goal.at.put_below-returns-in_err-kids t c).At-loop-i in
    let got = c.in_err-kids.ensures in
    record {
      made = put_none s c.node_at-node.ensures p c.loop-i-test.true c.put.new.nodes got.made.grows c.from_residual.result c.from_residual.ensures got.made.built;
      knows = got.knows;
    }

pub put_below-loop-i-preserved : goal.put_below-loop-i-preserved
put_below-loop-i-preserved t c =
    let s = below t (goal.at.put_below-loop-i-preserved t c).At-loop-i in
    let p = way t (goal.at.put_below-loop-i-preserved t c).At-loop-i in
    let got = c.in_ok-kids.ensures in
    record {
      way = put_more s c.node_at-node.ensures p c.loop-i-test.true c.put.new.nodes got.made.grows c.in_ok-kids.field-0 got.made.built;
      knows = got.knows;
    }

-- and made of them

pub put_below-make-requires : goal.put_below-make-requires
put_below-make-requires t c =
    let s = below t (goal.at.put_below-make-requires t c).At-loop-i in
    let p = way t (goal.at.put_below-make-requires t c).At-loop-i in
    record { ready = ready_after c.requires.ready p.begun.grows; makeable = put_makeable s c.node_at-node.ensures p c.loop-i.auto.i-end c.loop-i-test.false }

pub put_below-returns-in_err-result : goal.put_below-returns-in_err-result
put_below-returns-in_err-result t c =
    let s = below t (goal.at.put_below-returns-in_err-result t c).At-loop-i in
    let p = way t (goal.at.put_below-returns-in_err-result t c).At-loop-i in
    let new = c.make.new.nodes in
    let got = c.in_err-result.ensures in
    record {
      made = rw c.from_residual-in_err-result.ensures (put_made s c.node_at-node.ensures p c.loop-i.auto.i-end c.loop-i-test.false new None got);
      knows = knows_kept c.loop-i.nodes new got.grows.kept c.args.settings.now p.begun.grows.store c.loop-i.memo c.loop-i.invariant.knows;
    }

pub put_below-returns : goal.put_below-returns
put_below-returns t c =
    let s = below t (goal.at.put_below-returns t c).At-loop-i in
    let p = way t (goal.at.put_below-returns t c).At-loop-i in
    let new = c.make.new.nodes in
    let shape = c.args.settings.now in
    let got = c.in_ok-result.ensures in
    let known = knows_kept c.loop-i.nodes new got.grows.kept shape p.begun.grows.store c.loop-i.memo c.loop-i.invariant.knows in
    let right = put_right s c.node_at-node.ensures p c.loop-i.auto.i-end c.loop-i-test.false new c.in_ok-result.result got in
    record {
      made = put_made s c.node_at-node.ensures p c.loop-i.auto.i-end c.loop-i-test.false new (Some c.in_ok-result.result) got;
      knows = knows_added new shape c.loop-i.memo c.remember.new.memo _ known c.remember.ensures.table c.remember.ensures.added right;
    }
