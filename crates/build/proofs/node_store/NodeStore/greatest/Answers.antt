use Rattle.std.proofs.Common.{◌≡◌, false, ap, sym, refl, ◌∙◌}
use Rattle.model.specs.Charts.{late, plus}
use Rattle.model.proofs.Lateness.{late_tells}
use Rattle.store.specs.Stores.{chart, below}
use Rattle.store.proofs.Canon.{knows}
use Rattle.build.specs.Grew.{nodes_in, shape_in}
use Rattle.build.proofs.node_store.NodeStore.greatest.Goals as goal

pub reach-requires-clause-timely : goal.reach-requires-clause-timely
reach-requires-clause-timely c =
    let s = c.args.self.now in
    let e = c.args.e in
    let high = (knows (nodes_in s) (shape_in s) s.ready.store (shape_in s) 0 e refl c.requires.fine).high in
    let timely : late (plus e.weight (below (nodes_in s) (shape_in s) e)) ≡ false = ap late (sym high) ∙ sym (late_tells (chart (nodes_in s) (shape_in s) e)) ∙ c.requires.timely in
    rw (c.as_slice.ensures.value, c.shape.ensures.value) timely

pub returns : goal.returns
returns c =
    let s = c.args.self.now in
    let e = c.args.e in
    let high = (knows (nodes_in s) (shape_in s) s.ready.store (shape_in s) 0 e refl c.requires.fine).high in
    let got = rw (c.as_slice.ensures.value, c.shape.ensures.value) at c.reach.ensures in
    record { value = got ∙ sym high }
