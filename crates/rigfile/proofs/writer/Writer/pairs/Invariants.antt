use Rattle.std.proofs.Common.{drop}
use Rattle.std.specs.List.{flat_map}
use Rattle.rigfile.specs.Writing.{pair_bytes}
use Rattle.rigfile.proofs.Written.{Ahead}
use Rattle.rigfile.proofs.writer.Writer.pairs.Given as goal

abbrev pub invariant-loop-pair : goal.invariant-loop-pair
invariant-loop-pair l = Ahead l.initial.self (flat_map pair_bytes l.pairs) (flat_map pair_bytes (drop l.pair-index l.pairs)) l.self
