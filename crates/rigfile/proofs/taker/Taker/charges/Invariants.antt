use Rattle.std.proofs.Common.{◌≡◌, ◌++◌, length}
use Rattle.std.specs.List.{flat_map}
use Rattle.lists.specs.Shorts.{listed}
use Rattle.drafts.specs.Drafts.{charges_of}
use Rattle.format.specs.Files.{surcharge}
use Rattle.rigfile.specs.Taking.{Laid}
use Rattle.rigfile.proofs.taker.Taker.charges.Given as goal

abbrev pub invariant-loop : goal.invariant-loop
invariant-loop l =
    (length (listed l.charges) ≡ l.counter)
    × (l.initial.self.reader.rest.now ≡ flat_map surcharge (charges_of (listed l.charges)) ++ l.self.reader.rest.now)
    × Laid l.self
