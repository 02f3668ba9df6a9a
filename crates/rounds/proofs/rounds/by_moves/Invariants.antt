use Rattle.rounds.proofs.OfRounds.{Lowering}
use Rattle.rounds.proofs.rounds.by_moves.Given as goal

abbrev pub invariant-loop-number : goal.invariant-loop-number
invariant-loop-number g l = Lowering g.S.Shelf.meaning l.initial.round l.slots l.round l.number
