use Rattle.std.proofs.Common.{◌≡◌, ◌+◌, List, ◌++◌, length, MatchOption}
use Rattle.std.specs.List.{flat_map}
use Rattle.format.specs.Files.{Entry, entry, Rising}
use Rattle.framing.specs.Reading.{after}
use Rattle.framing.proofs.reader.Reader.entries.Given as goal

abbrev pub invariant-loop : goal.invariant-loop
invariant-loop l =
    (es : List Entry) × (length es ≡ l.counter) × (l.initial.self.rest.now ≡ flat_map entry es ++ l.self.rest.now) × Rising 0 es × MatchOption l.last (after 0 es ≡ 0) (λ n. after 0 es ≡ n + 1)
