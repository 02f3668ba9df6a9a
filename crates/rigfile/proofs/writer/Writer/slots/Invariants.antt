use Rattle.std.proofs.Common.{drop}
use Rattle.rigfile.specs.Writing.{slots_bytes}
use Rattle.rigfile.proofs.Written.{Ahead}
use Rattle.rigfile.proofs.writer.Writer.slots.Given as goal

abbrev pub invariant-loop-number : goal.invariant-loop-number
invariant-loop-number l = Ahead l.initial.self (slots_bytes 0 l.slots) (slots_bytes l.number (drop l.number l.slots)) l.self
