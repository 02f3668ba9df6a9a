use Rattle.std.proofs.Common.{length, Some, None, sym, ap, ◌∙◌, arith, rules}
use Rattle.nodes.specs.declared.remembered.Operation.TheVariants.{Join}
use Rattle.model.specs.Charts.{late}
use Rattle.build.specs.Grew.{nodes_in, shape_in}
use Rattle.build.proofs.Grown.{grew_none, ready_in}
use Rattle.build.proofs.Sides.{weight_timely}
use Rattle.memo.specs.Results.{Right}
use Rattle.apply.proofs.Answering.{answer_left, answer_right, answer_leaf, answer_same}
use Rattle.apply.proofs.Zeros.{sum_is_left, sum_is_right}
use Rattle.apply.proofs.Joining.{sides_of, pair_of, two, two_below, two_left, two_right, two_all, next_of, rest_joinable, rest_stuck, rest_timely, rest_stands, rest_grew, raise_left, raise_right, kid_joinable, join_grew, join_stuck, join_more, kids_makeable, join_made, join_built, join_right}
use Rattle.apply.proofs.join.+joins.Goals as goal

pub join-returns-in_default : goal.join-returns-in_default
join-returns-in_default t c =
    let store = c.args.diagrams.now.store in
    record { grew = grew_none store c.args.level _; built = answer_left c.args.op (nodes_in store) (shape_in store) store.ready.store c.args.level c.args.a c.args.b c.skip.result c.in_default.is c.requires.joinable.left.fine c.requires.joinable.right.fine c.skip.ensures }

pub join-returns-in_default-weight : goal.join-returns-in_default-weight
join-returns-in_default-weight t c =
    let store = c.args.diagrams.now.store in
    record { grew = grew_none store c.args.level _; built = answer_right c.args.op (nodes_in store) (shape_in store) store.ready.store c.args.level c.args.a c.args.b c.skip-in_default-weight.result c.in_default-weight.is c.requires.joinable.left.fine c.requires.joinable.right.fine c.skip-in_default-weight.ensures }

pub join-split-weights-requires : goal.join-split-weights-requires
join-split-weights-requires t c =
    let store = c.args.diagrams.now.store in
    record {
      left = ap late (sym c.in-Some.is) ∙ weight_timely (nodes_in store) (shape_in store) store.ready.store c.args.level c.args.a c.requires.joinable.left.fine c.requires.joinable.left.timely;
      right = ap late (sym c.in-Some-weight.is) ∙ weight_timely (nodes_in store) (shape_in store) store.ready.store c.args.level c.args.b c.requires.joinable.right.fine c.requires.joinable.right.timely;
    }

pub join-returns-then-level-devices : goal.join-returns-then-level-devices
join-returns-then-level-devices t c =
    let store = c.args.diagrams.now.store in
    record { grew = grew_none store c.args.level _; built = answer_leaf c.args.op (nodes_in store) (shape_in store) c.args.level c.args.a c.args.b c.in-Some.weight_a c.in-Some-weight.weight_b c.split-weights.result (c.if-level-devices.true ∙ c.devices.ensures.value) c.in-Some.is c.in-Some-weight.is c.split-weights.ensures c.requires.joinable.left.fine }

pub join-returns-then-a-b : goal.join-returns-then-a-b
join-returns-then-a-b t c =
    let store = c.args.diagrams.now.store in
    record { grew = grew_none store c.args.level _; built = answer_same c.args.op (nodes_in store) (shape_in store) c.args.level c.args.a c.args.b c.in-Some.weight_a c.in-Some-weight.weight_b c.split-weights.result (search rules) c.if-a-b.true c.in-Some.is c.in-Some-weight.is c.split-weights.ensures c.requires.joinable.left.fine }

pub join-returns-then-is_zero : goal.join-returns-then-is_zero
join-returns-then-is_zero t c =
    let store = c.args.diagrams.now.store in
    let sides = sides_of c.requires.joinable c.in-Some.is c.in-Some-weight.is c.split-weights.ensures in
    let zero = rw c.from.ensures at c.is_zero.ensures in
    record { grew = grew_none store c.args.level _; built = sum_is_left sides store.ready.store (search rules) (zero.0 c.if-is_zero.true) }

pub join-returns-then-is_zero-2 : goal.join-returns-then-is_zero-2
join-returns-then-is_zero-2 t c =
    let store = c.args.diagrams.now.store in
    let sides = sides_of c.requires.joinable c.in-Some.is c.in-Some-weight.is c.split-weights.ensures in
    let zero = rw c.from-then-eq-3.ensures at c.is_zero-then-eq-3.ensures in
    record { grew = grew_none store c.args.level _; built = sum_is_right sides store.ready.store (search rules) (zero.0 c.if-is_zero-2.true) }

pub join-join_nodes-requires : goal.join-join_nodes-requires
join-join_nodes-requires t c =
    let sides = sides_of c.requires.joinable c.in-Some.is c.in-Some-weight.is c.split-weights.ensures in
    (search rules, (omega arith, rest_joinable sides))

pub join-returns-in_err-rest : goal.join-returns-in_err-rest
join-returns-in_err-rest t c =
    let store = c.args.diagrams.now.store in
    let new = c.join_nodes.new.diagrams.store in
    let sides = sides_of c.requires.joinable c.in-Some.is c.in-Some-weight.is c.split-weights.ensures in
    let got = c.in_err-rest.ensures in
    record { grew = rest_grew store new sides got.grew; built = rw c.from_residual.ensures (rest_stuck sides (nodes_in new) got.built) }

pub join-raise-requires : goal.join-raise-requires
join-raise-requires t c =
    let store = c.args.diagrams.now.store in
    let new = c.join_nodes.new.diagrams.store in
    let sides = sides_of c.requires.joinable c.in-Some.is c.in-Some-weight.is c.split-weights.ensures in
    let got = c.in_ok-rest.ensures in
    rest_timely sides (nodes_in new) (ready_in store new got.grew.same).store c.in_ok-rest.rest got.built

pub join-returns : goal.join-returns
join-returns t c =
    let store = c.args.diagrams.now.store in
    let new = c.join_nodes.new.diagrams.store in
    let sides = sides_of c.requires.joinable c.in-Some.is c.in-Some-weight.is c.split-weights.ensures in
    let got = c.in_ok-rest.ensures in
    record { grew = rest_grew store new sides got.grew; built = rest_stands sides (nodes_in new) (ready_in store new got.grew.same).store c.in_ok-rest.rest got.built c.raise.result c.raise.ensures }

pub join_nodes-make-requires : goal.join_nodes-make-requires
join_nodes-make-requires t c =
    let pair = pair_of c.args.op c.args.diagrams.now.store c.args.level c.args.x c.args.y c.requires.depth c.requires.joinable in
    kids_makeable pair c.in_ok-kids.ensures

pub join_nodes-returns-in_err-result : goal.join_nodes-returns-in_err-result
join_nodes-returns-in_err-result t c =
    let pair = pair_of c.args.op c.args.diagrams.now.store c.args.level c.args.x c.args.y c.requires.depth c.requires.joinable in
    let got = c.in_err-result.ensures in
    record { grew = join_made pair c.in_ok-kids.ensures got.grew; built = rw c.from_residual-in_err-result.ensures (join_built pair c.in_ok-kids.ensures got.grew None got.built) }

pub join_nodes-remember-requires : goal.join_nodes-remember-requires
join_nodes-remember-requires t c =
    let pair = pair_of c.args.op c.args.diagrams.now.store c.args.level c.args.x c.args.y c.requires.depth c.requires.joinable in
    let got = c.in_ok-result.ensures in
    let p = sym c.from.ensures in
    let q = sym c.from-2.ensures in
    let new = c.make.new.self.store in
    record { right = coe 0 1 (i. Right (nodes_in new) (shape_in new) (record { operation = Join c.args.op; level = c.args.level; left = p i; right = q i }) c.in_ok-result.result) (join_right pair c.in_ok-kids.ensures got.grew c.in_ok-result.result got.built) }

pub join_nodes-returns : goal.join_nodes-returns
join_nodes-returns t c =
    let pair = pair_of c.args.op c.args.diagrams.now.store c.args.level c.args.x c.args.y c.requires.depth c.requires.joinable in
    let got = c.in_ok-result.ensures in
    rw c.remember.ensures.store (record { grew = join_made pair c.in_ok-kids.ensures got.grew; built = join_built pair c.in_ok-kids.ensures got.grew (Some c.in_ok-result.result) got.built })

pub join_kids-raise-left-requires : goal.join_kids-raise-left-requires
join_kids-raise-left-requires t c =
    let pair = pair_of c.args.op c.args.diagrams.now.store c.args.level c.args.x c.args.y c.requires.depth c.requires.joinable in
    let at = c.loop-i.invariant.2 in
    let n = c.count-count.ensures.value in
    rw (two_left pair at n c.next.new.self c.in-Some.is c.next.ensures.steps) (raise_left pair c.in-Some.i (two_below pair at n c.next.new.self c.in-Some.is c.next.ensures.steps))

pub join_kids-raise-right-requires : goal.join_kids-raise-right-requires
join_kids-raise-right-requires t c =
    let pair = pair_of c.args.op c.args.diagrams.now.store c.args.level c.args.x c.args.y c.requires.depth c.requires.joinable in
    let at = c.loop-i.invariant.2 in
    let n = c.count-count.ensures.value in
    rw (two_right pair at n c.next.new.self c.in-Some.is c.next.ensures.steps) (raise_right pair c.in-Some.i (two_below pair at n c.next.new.self c.in-Some.is c.next.ensures.steps))

pub join_kids-join-requires : goal.join_kids-join-requires
join_kids-join-requires t c =
    let pair = pair_of c.args.op c.args.diagrams.now.store c.args.level c.args.x c.args.y c.requires.depth c.requires.joinable in
    let next = next_of pair c.loop-i.invariant.2 c.count-count.ensures.value c.next.new.self c.in-Some.is c.next.ensures.steps c.loop-i.invariant.3 c.raise-left.ensures c.raise-right.ensures in
    (omega (arith, ap length c.loop-i.invariant.3.same, c.requires.depth), (omega (arith, ap length c.loop-i.invariant.3.same), kid_joinable next))

pub join_kids-returns-in_err-kids : goal.join_kids-returns-in_err-kids
join_kids-returns-in_err-kids t c =
    let pair = pair_of c.args.op c.args.diagrams.now.store c.args.level c.args.x c.args.y c.requires.depth c.requires.joinable in
    let next = next_of pair c.loop-i.invariant.2 c.count-count.ensures.value c.next.new.self c.in-Some.is c.next.ensures.steps c.loop-i.invariant.3 c.raise-left.ensures c.raise-right.ensures in
    let got = c.in_err-kids.ensures in
    rw c.from_residual.ensures (join_grew next got.grew, join_stuck next got.grew got.built)

pub join_kids-loop-i-preserved : goal.join_kids-loop-i-preserved
join_kids-loop-i-preserved t c =
    let pair = pair_of c.args.op c.args.diagrams.now.store c.args.level c.args.x c.args.y c.requires.depth c.requires.joinable in
    let next = next_of pair c.loop-i.invariant.2 c.count-count.ensures.value c.next.new.self c.in-Some.is c.next.ensures.steps c.loop-i.invariant.3 c.raise-left.ensures c.raise-right.ensures in
    let turn = two pair c.loop-i.invariant.2 c.count-count.ensures.value c.next.new.self c.in-Some.is c.next.ensures.steps in
    let got = c.in_ok-kids.ensures in
    (search rules, search rules, turn.ahead, rw turn.count (join_more next got.grew c.in_ok-kids.field-0 got.built))

pub join_kids-returns : goal.join_kids-returns
join_kids-returns t c =
    rw (← two_all (pair_of c.args.op c.args.diagrams.now.store c.args.level c.args.x c.args.y c.requires.depth c.requires.joinable) c.loop-i.invariant.2 c.count-count.ensures.value c.next.new.self c.in-None.is c.next.ensures.steps) c.loop-i.invariant.3
