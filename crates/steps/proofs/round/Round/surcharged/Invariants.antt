use Rattle.std.proofs.Common.{map, drop}
use Rattle.rule.specs.Steps.{surcharged}
use Rattle.moves.specs.Views.{surcharge_of}
use Rattle.steps.proofs.Steps.{Along}
use Rattle.steps.proofs.round.Round.surcharged.Given as goal

abbrev pub invariant-loop-surcharge : goal.invariant-loop-surcharge
invariant-loop-surcharge g l = Along g.S.Shelf.meaning l.initial.self (surcharged (map surcharge_of l.surcharges)) l.self (surcharged (map surcharge_of (drop l.surcharge-index l.surcharges)))
