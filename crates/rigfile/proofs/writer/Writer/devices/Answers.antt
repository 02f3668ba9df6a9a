use Rattle.std.proofs.Common.{◌∷◌, length, ap, arith}
use Rattle.std.specs.Iterator.Adapters.{zip_first, zip_second}
use Rattle.std.specs.Slice.Iter.{iter_rest}
use Rattle.std.proofs.lemmas.Iterator.{empty_from_Zip}
use Rattle.std.proofs.lemmas.Slice.Zip.{Zip-more}
use Rattle.format.specs.Files.{devices}
use Rattle.rigfile.proofs.Written.{room, turn, ended}
use Rattle.rigfile.proofs.writer.Writer.devices.Goals as goal

pub device-requires : goal.device-requires
device-requires c =
    let next = Zip-more c.loop-count.count-iterator c.next.new.self c.next.result (c.in-Some.count, c.in-Some.name) c.in-Some.is c.next.ensures.steps in
    room (c.in-Some.count.now ∷ c.in-Some.name.now) (devices (iter_rest (zip_first c.next.new.self)) (iter_rest (zip_second c.next.new.self))) (λ i. devices (next.0 i) (next.1 i)) c.loop-count.invariant.3

pub loop-count-preserved : goal.loop-count-preserved
loop-count-preserved c =
    let next = Zip-more c.loop-count.count-iterator c.next.new.self c.next.result (c.in-Some.count, c.in-Some.name) c.in-Some.is c.next.ensures.steps in
    let i = c.loop-count.invariant in
    (i.0, i.1, omega (arith, ap length next.0, ap length next.1, i.2), turn (devices (iter_rest (zip_first c.next.new.self)) (iter_rest (zip_second c.next.new.self))) (λ k. devices (next.0 k) (next.1 k)) i.3 c.device.ensures)

pub returns : goal.returns
returns c =
    let none = empty_from_Zip c.loop-count.count-iterator c.next.new.self c.next.result c.in-None.is c.next.ensures.steps c.loop-count.invariant.2 in
    ended (λ k. devices (none.0 k) (none.1 k)) c.loop-count.invariant.3
