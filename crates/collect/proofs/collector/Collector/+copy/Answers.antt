use Rattle.std.proofs.Common.{rules, length, sym, refl, ap, ◌∙◌, arith}
use Rattle.collect.proofs.Lasting.{lasts_on}
use Rattle.collect.proofs.Copying.{turn_at, item_at, all_passed, filled_grew, filled_stuck, filled_more, next_kid, filled_makeable, filled_made, filled_full, still_moved, filled_stands, filled_noted}
use Rattle.build.specs.Grew.{nodes_in, shape_in}
use Rattle.collect.specs.Copies.{Moved}
use Rattle.collect.proofs.collector.Collector.+copy.Goals as goal

pub returns-in-Some-clause-built : goal.returns-in-Some-clause-built
returns-in-Some-clause-built t c = c.args.self.now.right c.args.e.child c.in-Some.child (sym c.in-Some.ensures) c.args.level c.args.e (omega arith) refl c.requires.fine

pub loop-i-init : goal.loop-i-init
loop-i-init t c = (record { source = refl; same_spare = refl; same_moved = refl }, record { begun = search rules; noted = c.args.self.now.right })

pub invariant_of-self-3 : goal.invariant_of-self-3
invariant_of-self-3 t c =
    let filled = c.loop-i.invariant.1 in
    let turn = turn_at c.args.level c.args.e c.loop-i.invariant.0.source c.args.self.now.store (omega arith) c.requires.fine c.node_at-node.ensures c.requires.timely in
    let all = all_passed turn.side c.loop-i.i c.count-count.ensures.value turn.node c.loop-i-test.false c.loop-i.auto.i-end in
    let got = c.make.ensures in
    let right : Moved c.loop-i.self.source.now (nodes_in c.make.new.self) (shape_in c.make.new.self) c.loop-i.self.moved.now = rw (got.grew.same, filled.begun.same) (still_moved turn.side filled all got.grew) in
    record { store = rw got.grew.same c.loop-i.self.store; right = right }

pub invariant_of-self-4 : goal.invariant_of-self-4
invariant_of-self-4 t c =
    let filled = c.loop-i.invariant.1 in
    let turn = turn_at c.args.level c.args.e c.loop-i.invariant.0.source c.args.self.now.store (omega arith) c.requires.fine c.node_at-node.ensures c.requires.timely in
    let all = all_passed turn.side c.loop-i.i c.count-count.ensures.value turn.node c.loop-i-test.false c.loop-i.auto.i-end in
    let got = c.in_ok-made.ensures in
    let right : Moved c.loop-i.self.source.now (nodes_in c.make.new.self) (shape_in c.make.new.self) c.note.new.moved = rw (got.grew.same, filled.begun.same) (filled_noted turn.side filled all got.grew c.in_ok-made.made got.built c.note.new.moved c.note.ensures) in
    record { store = rw got.grew.same c.loop-i.self.store; right = right }

pub copy-requires : goal.copy-requires
copy-requires t c =
    let filled = c.loop-i.invariant.1 in
    let turn = turn_at c.args.level c.args.e c.loop-i.invariant.0.source c.args.self.now.store (omega arith) c.requires.fine c.node_at-node.ensures c.requires.timely in
    let item = item_at turn.side c.loop-i.i c.count-count.ensures.value turn.node c.loop-i-test.true in
    let next = next_kid turn.side filled item turn.timely in
    (omega (arith, ap length filled.begun.same, turn.side.lt), (next.depth, (next.fine, next.timely)))

pub loop-i-preserved : goal.loop-i-preserved
loop-i-preserved t c =
    let turn = turn_at c.args.level c.args.e c.loop-i.invariant.0.source c.args.self.now.store (omega arith) c.requires.fine c.node_at-node.ensures c.requires.timely in
    let item = item_at turn.side c.loop-i.i c.count-count.ensures.value turn.node c.loop-i-test.true in
    let got = c.in_ok-kids.ensures in
    (lasts_on c.loop-i.invariant.0 got.lasts, rw got.lasts.source (filled_more turn.side c.loop-i.invariant.1 item got.grew c.copy.new.self.moved.now c.in_ok-kids.field-0 got.built (rw (← got.lasts.source, ← got.grew.same) c.copy.new.self.right)))

pub returns-in_err-kids : goal.returns-in_err-kids
returns-in_err-kids t c =
    let same = c.loop-i.invariant.0.source in
    let filled = c.loop-i.invariant.1 in
    let turn = turn_at c.args.level c.args.e same c.args.self.now.store (omega arith) c.requires.fine c.node_at-node.ensures c.requires.timely in
    let item = item_at turn.side c.loop-i.i c.count-count.ensures.value turn.node c.loop-i-test.true in
    let got = c.in_err-kids.ensures in
    record {
      lasts = record { source = got.lasts.source ∙ same; same_spare = got.lasts.same_spare ∙ c.loop-i.invariant.0.same_spare; same_moved = got.lasts.same_moved ∙ c.loop-i.invariant.0.same_moved };
      grew = rw (← same) (filled_grew turn.side filled item got.grew);
      built = rw (c.from_residual.ensures, ← same) (filled_stuck turn.side filled item got.grew got.built);
    }

pub make-requires : goal.make-requires
make-requires t c =
    let turn = turn_at c.args.level c.args.e c.loop-i.invariant.0.source c.args.self.now.store (omega arith) c.requires.fine c.node_at-node.ensures c.requires.timely in
    let all = all_passed turn.side c.loop-i.i c.count-count.ensures.value turn.node c.loop-i-test.false c.loop-i.auto.i-end in
    filled_makeable turn.side c.loop-i.invariant.1 all turn.timely

pub returns-in_err-made : goal.returns-in_err-made
returns-in_err-made t c =
    let same = c.loop-i.invariant.0.source in
    let filled = c.loop-i.invariant.1 in
    let turn = turn_at c.args.level c.args.e same c.args.self.now.store (omega arith) c.requires.fine c.node_at-node.ensures c.requires.timely in
    let all = all_passed turn.side c.loop-i.i c.count-count.ensures.value turn.node c.loop-i-test.false c.loop-i.auto.i-end in
    let got = c.in_err-made.ensures in
    record {
      lasts = record { source = same; same_spare = c.loop-i.invariant.0.same_spare; same_moved = c.loop-i.invariant.0.same_moved };
      grew = rw (← same) (filled_made turn.side filled all got.grew);
      built = rw (c.from_residual-in_err-made.ensures, ← same) (filled_full turn.side filled all got.grew got.built);
    }

pub returns : goal.returns
returns t c =
    let same = c.loop-i.invariant.0.source in
    let filled = c.loop-i.invariant.1 in
    let turn = turn_at c.args.level c.args.e same c.args.self.now.store (omega arith) c.requires.fine c.node_at-node.ensures c.requires.timely in
    let all = all_passed turn.side c.loop-i.i c.count-count.ensures.value turn.node c.loop-i-test.false c.loop-i.auto.i-end in
    let got = c.in_ok-made.ensures in
    record {
      lasts = record { source = same; same_spare = c.loop-i.invariant.0.same_spare; same_moved = c.loop-i.invariant.0.same_moved };
      grew = rw (← same) (filled_made turn.side filled all got.grew);
      built = rw (← same) (filled_stands turn.side filled all got.grew c.in_ok-made.made got.built);
    }
