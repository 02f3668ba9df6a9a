use Rattle.std.proofs.Common.{drop}
use Rattle.std.specs.List.{flat_map}
use Rattle.rigfile.specs.Writing.{surcharge_bytes}
use Rattle.rigfile.proofs.Written.{Ahead}
use Rattle.rigfile.proofs.writer.Writer.surcharges.Given as goal

abbrev pub invariant-loop-surcharge : goal.invariant-loop-surcharge
invariant-loop-surcharge l = Ahead l.initial.self (flat_map surcharge_bytes l.surcharges) (flat_map surcharge_bytes (drop l.surcharge-index l.surcharges)) l.self
