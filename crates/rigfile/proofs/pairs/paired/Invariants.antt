use Rattle.std.proofs.Common.{◌≡◌, ◌+◌, ◌*◌, ◌/◌, ◌++◌, length}
use Rattle.lists.specs.Shorts.{listed}
use Rattle.moves.specs.Views.{pairs_of}
use Rattle.rigfile.specs.Taking.{pairing}
use Rattle.rigfile.proofs.pairs.paired.Given as goal

abbrev pub invariant-loop : goal.invariant-loop
invariant-loop l =
    (length (listed l.pairs) ≡ l.counter)
    × (l.end ≡ length l.bytes / 2)
    × (2 * l.counter + length l.reader.rest.now ≡ length l.bytes)
    × (pairs_of (listed l.pairs) ++ pairing l.reader.rest.now ≡ pairing l.bytes)
