use Rattle.std.proofs.Common.{◌≡◌, ◌++◌, length}
use Rattle.std.specs.List.{AllByRecursion}
use Rattle.lists.specs.Shorts.{listed}
use Rattle.format.specs.Files.{devices, Eight}
use Rattle.rigfile.proofs.front.Devices.take.Given as goal

abbrev pub invariant-loop : goal.invariant-loop
invariant-loop l =
    (length (listed l.settings) ≡ l.counter)
    × (length (listed l.names) ≡ l.counter)
    × AllByRecursion Eight (listed l.names)
    × (l.initial.reader.rest.now ≡ devices (listed l.settings) (listed l.names) ++ l.reader.rest.now)
