use Rattle.std.proofs.Common.{◌≡◌, List, ◌++◌, length}
use Rattle.std.specs.List.{flat_map}
use Rattle.model.specs.Moves.{Surcharge}
use Rattle.format.specs.Files.{surcharge}
use Rattle.framing.proofs.reader.Reader.surcharges.Given as goal

abbrev pub invariant-loop : goal.invariant-loop
invariant-loop l = (xs : List Surcharge) × (length xs ≡ l.counter) × (l.initial.self.rest.now ≡ flat_map surcharge xs ++ l.self.rest.now)
