use Rattle.std.proofs.Common.{map}
use Rattle.rule.specs.Steps.{by_moves}
use Rattle.moves.specs.Views.{slot_of}
use Rattle.rounds.proofs.OfRounds.{took_stepped, took_unstepped}
use Rattle.rounds.proofs.rounds.one_round.Goals as goal

pub returns-in_err-cheaper : goal.returns-in_err-cheaper
returns-in_err-cheaper g c = record { stepped = took_unstepped (by_moves c.args.round.now.number 0 (map slot_of c.args.slots.now)) c.from_residual.result c.from_residual.ensures.1 c.in_err-cheaper.ensures.took }

pub returns : goal.returns
returns g c = record { stepped = took_stepped (λ k. by_moves k 0 (map slot_of c.args.slots.now)) c.in_ok-cheaper.ensures.took c.by_moves.ensures.stepped }
