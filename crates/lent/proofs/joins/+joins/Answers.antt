use Rattle.std.proofs.Common.{Some, None, sym, ap, ◌∙◌, arith, rules}
use Rattle.nodes.specs.declared.remembered.Operation.TheVariants.{Join}
use Rattle.model.specs.Charts.{late}
use Rattle.build.proofs.Steps.{grows_none}
use Rattle.build.proofs.Sides.{weight_timely}
use Rattle.memo.specs.Results.{Right}
use Rattle.memo.proofs.Keeps.{knows_kept, knows_added}
use Rattle.apply.proofs.Answering.{answer_left, answer_right, answer_leaf, answer_same}
use Rattle.apply.proofs.Joining.{sides_of, rest_joinable, rest_stuck, rest_timely, rest_stands}
use Rattle.lent.proofs.Recalls.{recalled_right}
use Rattle.lent.proofs.Joining.{rest_grows, pair_of, two, two_below, two_left, two_right, two_all, next_of, raise_left, raise_right, kids_ready, kids_makeable, join_made, join_right, kid_ready, kid_joinable, join_grows, join_stuck, join_more}
use Rattle.lent.proofs.joins.+joins.Goals as goal

pub join-returns-in_default : goal.join-returns-in_default
join-returns-in_default t c =
    let old = c.args.nodes.now in
    let shape = c.args.settings.now in
    record {
      made = record { grows = grows_none old shape c.args.level _ c.requires.ready; built = answer_left c.args.op old shape c.requires.ready.store c.args.level c.args.a c.args.b c.skip.result c.in_default.is c.requires.joinable.left.fine c.requires.joinable.right.fine c.skip.ensures };
      knows = c.requires.knows;
    }

pub join-returns-in_default-weight : goal.join-returns-in_default-weight
join-returns-in_default-weight t c =
    let old = c.args.nodes.now in
    let shape = c.args.settings.now in
    record {
      made = record { grows = grows_none old shape c.args.level _ c.requires.ready; built = answer_right c.args.op old shape c.requires.ready.store c.args.level c.args.a c.args.b c.skip-in_default-weight.result c.in_default-weight.is c.requires.joinable.left.fine c.requires.joinable.right.fine c.skip-in_default-weight.ensures };
      knows = c.requires.knows;
    }

pub join-split-weights-requires : goal.join-split-weights-requires
join-split-weights-requires t c =
    let old = c.args.nodes.now in
    let shape = c.args.settings.now in
    record {
      left = ap late (sym c.in-Some.is) ∙ weight_timely old shape c.requires.ready.store c.args.level c.args.a c.requires.joinable.left.fine c.requires.joinable.left.timely;
      right = ap late (sym c.in-Some-weight.is) ∙ weight_timely old shape c.requires.ready.store c.args.level c.args.b c.requires.joinable.right.fine c.requires.joinable.right.timely;
    }

pub join-returns-then-level-settings : goal.join-returns-then-level-settings
join-returns-then-level-settings t c =
    let old = c.args.nodes.now in
    let shape = c.args.settings.now in
    record {
      made = record { grows = grows_none old shape c.args.level _ c.requires.ready; built = answer_leaf c.args.op old shape c.args.level c.args.a c.args.b c.in-Some.weight_a c.in-Some-weight.weight_b c.split-weights.result c.if-level-settings.true c.in-Some.is c.in-Some-weight.is c.split-weights.ensures c.requires.joinable.left.fine };
      knows = c.requires.knows;
    }

pub join-returns-then-a-b : goal.join-returns-then-a-b
join-returns-then-a-b t c =
    let old = c.args.nodes.now in
    let shape = c.args.settings.now in
    record {
      made = record { grows = grows_none old shape c.args.level _ c.requires.ready; built = answer_same c.args.op old shape c.args.level c.args.a c.args.b c.in-Some.weight_a c.in-Some-weight.weight_b c.split-weights.result (search rules) c.if-a-b.true c.in-Some.is c.in-Some-weight.is c.split-weights.ensures c.requires.joinable.left.fine };
      knows = c.requires.knows;
    }

pub join-join_nodes-requires : goal.join-join_nodes-requires
join-join_nodes-requires t c =
    let sides = sides_of c.requires.joinable c.in-Some.is c.in-Some-weight.is c.split-weights.ensures in
    (search rules, (omega arith, (c.requires.ready, (c.requires.knows, rest_joinable sides))))

pub join-returns-in_err-rest : goal.join-returns-in_err-rest
join-returns-in_err-rest t c =
    let new = c.join_nodes.new.nodes in
    let sides = sides_of c.requires.joinable c.in-Some.is c.in-Some-weight.is c.split-weights.ensures in
    let got = c.in_err-rest.ensures in
    record {
      made = record { grows = rest_grows sides new got.made.grows; built = rw c.from_residual.ensures (rest_stuck sides new got.made.built) };
      knows = got.knows;
    }

pub join-raise-requires : goal.join-raise-requires
join-raise-requires t c =
    let sides = sides_of c.requires.joinable c.in-Some.is c.in-Some-weight.is c.split-weights.ensures in
    let got = c.in_ok-rest.ensures in
    rest_timely sides c.join_nodes.new.nodes got.made.grows.store c.in_ok-rest.rest got.made.built

pub join-returns : goal.join-returns
join-returns t c =
    let new = c.join_nodes.new.nodes in
    let sides = sides_of c.requires.joinable c.in-Some.is c.in-Some-weight.is c.split-weights.ensures in
    let got = c.in_ok-rest.ensures in
    record {
      made = record { grows = rest_grows sides new got.made.grows; built = rest_stands sides new got.made.grows.store c.in_ok-rest.rest got.made.built c.raise.result c.raise.ensures };
      knows = got.knows;
    }

pub join_nodes-returns-in-Some : goal.join_nodes-returns-in-Some
join_nodes-returns-in-Some t c =
    let old = c.args.nodes.now in
    let shape = c.args.settings.now in
    let right = recalled_right c.requires.knows c.in-Some.ensures in
    let p = c.from.ensures in
    let q = c.from-2.ensures in
    let here : Right old shape (record { operation = Join c.args.op; level = c.args.level; left = _; right = _ }) c.in-Some.known = coe 0 1 (i. Right old shape (record { operation = Join c.args.op; level = c.args.level; left = p i; right = q i }) c.in-Some.known) right in
    record {
      made = record { grows = grows_none old shape c.args.level _ c.requires.ready; built = here.stands };
      knows = c.requires.knows;
    }

pub join_nodes-returns-in_err-kids : goal.join_nodes-returns-in_err-kids
join_nodes-returns-in_err-kids t c =
    let got = c.in_err-kids.ensures in
    record { made = record { grows = got.built.0; built = rw c.from_residual.ensures got.built.1 }; knows = got.knows }

pub join_nodes-make-requires : goal.join_nodes-make-requires
join_nodes-make-requires t c =
    let pair = pair_of c.args.x c.args.y c.requires.ready c.requires.depth c.requires.joinable in
    let way = c.in_ok-kids.ensures.built in
    record { ready = kids_ready pair way; makeable = kids_makeable pair way }

pub join_nodes-returns-in_err-result : goal.join_nodes-returns-in_err-result
join_nodes-returns-in_err-result t c =
    let pair = pair_of c.args.x c.args.y c.requires.ready c.requires.depth c.requires.joinable in
    let way = c.in_ok-kids.ensures.built in
    let mid = c.join_kids.new.nodes in
    let new = c.make.new.nodes in
    let shape = c.args.settings.now in
    let got = c.in_err-result.ensures in
    record {
      made = rw c.from_residual-in_err-result.ensures (join_made pair way new None got);
      knows = knows_kept mid new got.grows.kept shape way.grows.store c.join_kids.new.memo c.in_ok-kids.ensures.knows;
    }

pub join_nodes-returns : goal.join_nodes-returns
join_nodes-returns t c =
    let pair = pair_of c.args.x c.args.y c.requires.ready c.requires.depth c.requires.joinable in
    let way = c.in_ok-kids.ensures.built in
    let mid = c.join_kids.new.nodes in
    let new = c.make.new.nodes in
    let shape = c.args.settings.now in
    let got = c.in_ok-result.ensures in
    let p = sym c.from.ensures in
    let q = sym c.from-2.ensures in
    let right = coe 0 1 (i. Right new shape (record { operation = Join c.args.op; level = c.args.level; left = p i; right = q i }) c.in_ok-result.result) (join_right pair way new c.in_ok-result.result got) in
    let known = knows_kept mid new got.grows.kept shape way.grows.store c.join_kids.new.memo c.in_ok-kids.ensures.knows in
    record {
      made = join_made pair way new (Some c.in_ok-result.result) got;
      knows = knows_added new shape c.join_kids.new.memo c.remember.new.memo _ known c.remember.ensures.table c.remember.ensures.added right;
    }

pub join_kids-raise-left-requires : goal.join_kids-raise-left-requires
join_kids-raise-left-requires t c =
    let pair = pair_of c.args.x c.args.y c.requires.ready c.requires.depth c.requires.joinable in
    let at = c.loop-i.invariant.2 in
    let n = c.from-count.ensures in
    rw (two_left pair at n c.next.new.self c.in-Some.is c.next.ensures.steps) (raise_left pair c.in-Some.i (two_below pair at n c.next.new.self c.in-Some.is c.next.ensures.steps))

pub join_kids-raise-right-requires : goal.join_kids-raise-right-requires
join_kids-raise-right-requires t c =
    let pair = pair_of c.args.x c.args.y c.requires.ready c.requires.depth c.requires.joinable in
    let at = c.loop-i.invariant.2 in
    let n = c.from-count.ensures in
    rw (two_right pair at n c.next.new.self c.in-Some.is c.next.ensures.steps) (raise_right pair c.in-Some.i (two_below pair at n c.next.new.self c.in-Some.is c.next.ensures.steps))

pub join_kids-join-requires : goal.join_kids-join-requires
join_kids-join-requires t c =
    let pair = pair_of c.args.x c.args.y c.requires.ready c.requires.depth c.requires.joinable in
    let next = next_of pair c.loop-i.invariant.2 c.from-count.ensures c.next.new.self c.in-Some.is c.next.ensures.steps c.loop-i.invariant.3 c.raise-left.ensures c.raise-right.ensures in
    (omega (arith, c.requires.depth), (omega (arith, c.requires.depth), (kid_ready next, (c.loop-i.invariant.4, kid_joinable next))))

pub join_kids-returns-in_err-kids : goal.join_kids-returns-in_err-kids
join_kids-returns-in_err-kids t c =
    let pair = pair_of c.args.x c.args.y c.requires.ready c.requires.depth c.requires.joinable in
    let next = next_of pair c.loop-i.invariant.2 c.from-count.ensures c.next.new.self c.in-Some.is c.next.ensures.steps c.loop-i.invariant.3 c.raise-left.ensures c.raise-right.ensures in
    let got = c.in_err-kids.ensures in
    record { built = rw c.from_residual.ensures (join_grows next got.made.grows, join_stuck next got.made.grows got.made.built); knows = got.knows }

pub join_kids-loop-i-preserved : goal.join_kids-loop-i-preserved
join_kids-loop-i-preserved t c =
    let pair = pair_of c.args.x c.args.y c.requires.ready c.requires.depth c.requires.joinable in
    let next = next_of pair c.loop-i.invariant.2 c.from-count.ensures c.next.new.self c.in-Some.is c.next.ensures.steps c.loop-i.invariant.3 c.raise-left.ensures c.raise-right.ensures in
    let turn = two pair c.loop-i.invariant.2 c.from-count.ensures c.next.new.self c.in-Some.is c.next.ensures.steps in
    let got = c.in_ok-kids.ensures in
    (search rules, search rules, turn.ahead, rw turn.count (join_more next got.made.grows c.in_ok-kids.field-0 got.made.built), got.knows)

pub join_kids-returns : goal.join_kids-returns
join_kids-returns t c =
    record {
      built = rw (← two_all (pair_of c.args.x c.args.y c.requires.ready c.requires.depth c.requires.joinable) c.loop-i.invariant.2 c.from-count.ensures c.next.new.self c.in-None.is c.next.ensures.steps) c.loop-i.invariant.3;
      knows = c.loop-i.invariant.4;
    }
