use Rattle.std.proofs.Common.{ℕ, None, sym, refl, ap, ◌∙◌, arith}
use Rattle.table.specs.Tables.{slot}
use Rattle.build.proofs.Steps.{grows_none}
use Rattle.collect.proofs.Copying.{Side, side_at, item_at, all_passed}
use Rattle.lent.proofs.Growing.{ready_after}
use Rattle.lent.proofs.Copies.{copy_leaf, kid_fine, kid_timely, filled_none, filled_more, filled_makeable, filled_full, still_moved, filled_made, filled_noted}
use Rattle.lent.proofs.copying.+copy.Goals.{After-node_at-node}
use Rattle.lent.proofs.copying.+copy.Goals as goal

side : (t : ℕ) (c : After-node_at-node t) → Side c.args.source.now c.args.settings.now c.args.level c.args.e
side t c = side_at c.args.level c.args.e c.requires.store (omega arith) c.requires.fine

pub returns-then-level-settings : goal.returns-then-level-settings
returns-then-level-settings t c = record {
  made = record { grows = grows_none c.args.nodes.now c.args.settings.now c.args.level _ c.requires.ready; built = copy_leaf c.args.source.now c.args.nodes.now c.args.settings.now c.args.level c.args.e c.if-level-settings.true c.requires.fine };
  moved = c.requires.moved;
}

pub returns-in-Some : goal.returns-in-Some
returns-in-Some t c = record {
  made = record { grows = grows_none c.args.nodes.now c.args.settings.now c.args.level _ c.requires.ready; built = c.requires.moved c.args.e.child c.in-Some.child (ap (slot c.args.moved.now) (sym c.from.ensures) ∙ sym c.in-Some.ensures) c.args.level c.args.e (omega arith) refl c.requires.fine };
  moved = c.requires.moved;
}

pub copy-requires : goal.copy-requires
copy-requires t c =
    let s = side t (goal.at.copy-requires t c).After-node_at-node in
    let item = item_at s c.loop-i.i c.from-count.ensures c.node_at-node.ensures c.loop-i-test.true in
    let way = c.loop-i.invariant.way in
    (omega (arith, s.lt), (omega (arith, s.lt), (c.requires.store, (ready_after c.requires.ready way.grows, (c.loop-i.invariant.noted, (kid_fine s item, kid_timely s item c.requires.timely))))))

pub returns-in_err-kids : goal.returns-in_err-kids
returns-in_err-kids t c =
    let s = side t (goal.at.returns-in_err-kids t c).After-node_at-node in
    let item = item_at s c.loop-i.i c.from-count.ensures c.node_at-node.ensures c.loop-i-test.true in
    let got = c.in_err-kids.ensures in
    record {
      made = filled_none c.requires.ready s c.loop-i.invariant item got.made.grows c.from_residual.result c.from_residual.ensures got.made.built;
      moved = got.moved;
    }

pub loop-i-preserved : goal.loop-i-preserved
loop-i-preserved t c =
    let s = side t (goal.at.loop-i-preserved t c).After-node_at-node in
    let item = item_at s c.loop-i.i c.from-count.ensures c.node_at-node.ensures c.loop-i-test.true in
    let got = c.in_ok-kids.ensures in
    filled_more c.requires.ready s c.loop-i.invariant item got.made.grows c.copy.new.moved c.in_ok-kids.field-0 got.made.built got.moved

pub make-requires : goal.make-requires
make-requires t c =
    let s = side t (goal.at.make-requires t c).After-node_at-node in
    let all = all_passed s c.loop-i.i c.from-count.ensures c.node_at-node.ensures c.loop-i-test.false c.loop-i.auto.i-end in
    record { ready = ready_after c.requires.ready c.loop-i.invariant.way.grows; makeable = filled_makeable c.requires.ready s c.loop-i.invariant all c.requires.timely }

pub returns-in_err-made : goal.returns-in_err-made
returns-in_err-made t c =
    let s = side t (goal.at.returns-in_err-made t c).After-node_at-node in
    let all = all_passed s c.loop-i.i c.from-count.ensures c.node_at-node.ensures c.loop-i-test.false c.loop-i.auto.i-end in
    let got = c.in_err-made.ensures in
    record {
      made = filled_full c.requires.ready s c.loop-i.invariant all c.make.new.nodes c.from_residual-in_err-made.result c.from_residual-in_err-made.ensures got;
      moved = still_moved c.requires.ready s c.loop-i.invariant all c.make.new.nodes None got;
    }

pub returns : goal.returns
returns t c =
    let s = side t (goal.at.returns t c).After-node_at-node in
    let all = all_passed s c.loop-i.i c.from-count.ensures c.node_at-node.ensures c.loop-i-test.false c.loop-i.auto.i-end in
    let got = c.in_ok-made.ensures in
    record {
      made = filled_made c.requires.ready s c.loop-i.invariant all c.make.new.nodes c.in_ok-made.made got;
      moved = filled_noted c.requires.ready s c.loop-i.invariant all c.make.new.nodes c.in_ok-made.made got c.note.new.moved c.note.ensures;
    }
