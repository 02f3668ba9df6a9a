use Rattle.std.proofs.Common.{◌≡◌, false, get_or, take, vec_items, sym, ap, ◌∙◌, arith}
use Rattle.model.specs.Lists.{some}
use Rattle.model.specs.Charts.{late}
use Rattle.shelf.specs.Shapes.{shape_of}
use Rattle.flat.specs.Hanging.{sound_of}
use Rattle.flat.proofs.Calling.{dial_legal}
use Rattle.flat.proofs.store.calls.FlatShelfShelf.dial.Goals as goal

pub hang_dial-requires-clause-legal : goal.hang_dial-requires-clause-legal
hang_dial-requires-clause-legal c =
    let s = c.args.self.now in
    let ns = shape_of s.shape in
    let v = c.in_ok-device.device in
    let es = c.args.entries.now in
    let count : get_or ns v 0 ≡ c.count.result = omega (arith, c.count.ensures.value) in
    let timely : some late (take (get_or ns v 0) es) ≡ false = ap (λ k. some late (take k es)) count ∙ sym c.some_late.ensures.value ∙ c.if-some_late.false in
    dial_legal ns (vec_items s.cells) s.hung _ v es c.in_ok-device.ensures.1 c.in_ok-target.target.low timely (sound_of s)
