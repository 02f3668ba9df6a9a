use Rattle.std.proofs.Common.{◌≡◌, length, vec_len, sym, refl, arith}
use Rattle.std.proofs.lemmas.List.{with_items_is}
use Rattle.build.specs.Builds.{Grows, Built, together}
use Rattle.build.proofs.node_store.NodeStore.make.Goals as goal

pub returns : goal.returns
returns c =
    let s = c.args.self.now in
    let new = c.make.new.nodes in
    let len : length new ≡ vec_len s.nodes = omega (arith, c.make.auto.nodes, c.as_mut_slice.ensures.len) in
    let p = c.as_mut_slice.ensures.value in
    let q = c.as_slice-settings.ensures.value in
    let u = sym (with_items_is s.nodes new len) in
    record {
      grew = record { same = refl; grows = coe 0 1 (i. Grows (p i) (u i) (q i) c.args.level (together (p i) (q i) c.args.level c.args.kids)) c.make.ensures.grows };
      built = coe 0 1 (i. Built (u i) (q i) c.args.level (together (p i) (q i) c.args.level c.args.kids) c.make.result) c.make.ensures.built;
    }
