use Rattle.std.proofs.Common.{◌≡◌, length, vec_len, vec_items, arith}
use Rattle.std.proofs.lemmas.List.{with_items_is}
use Rattle.build.specs.Grew.{nodes_in, shape_in}
use Rattle.memo.proofs.Keeps.{knows_added}
use Rattle.memo.proofs.diagrams.Diagrams.keep.Goals as goal

pub invariant_of-self : goal.invariant_of-self
invariant_of-self c =
    let s = c.args.self.now in
    let mem = c.remember.new.memo in
    let len : length mem ≡ vec_len s.memo = omega (arith, c.remember.auto.memo, c.as_mut_slice.ensures.len) in
    let old = rw c.as_mut_slice.ensures.value at c.remember.ensures.added in
    record { known = rw (with_items_is s.memo mem len) (knows_added (nodes_in s.store) (shape_in s.store) (vec_items s.memo) mem c.args.x s.known c.remember.ensures.table old c.requires.right) }
