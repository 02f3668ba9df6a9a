use Rattle.std.proofs.Common.{◌≡◌, length}
use Rattle.std.specs.Iterator.Adapters.{zip_first, zip_second}
use Rattle.std.specs.Slice.Iter.{iter_rest}
use Rattle.format.specs.Files.{devices}
use Rattle.rigfile.proofs.Written.{Ahead}
use Rattle.rigfile.proofs.writer.Writer.devices.Given as goal

abbrev pub invariant-loop-count : goal.invariant-loop-count
invariant-loop-count l =
    (goal.iterator-loop-count).can_next l.count-iterator
    × (goal.iterator-loop-count).is_finite l.count-iterator
    × (length (iter_rest (zip_first l.count-iterator)) ≡ length (iter_rest (zip_second l.count-iterator)))
    × Ahead l.initial.self (devices l.settings l.names) (devices (iter_rest (zip_first l.count-iterator)) (iter_rest (zip_second l.count-iterator))) l.self
