use Rattle.steps.proofs.Steps.{took_then, took_broken}
use Rattle.steps.proofs.round.Round.lower_dial.Goals as goal

pub returns-in_err-dial : goal.returns-in_err-dial
returns-in_err-dial g c = record { took = took_broken _ _ c.from_residual.ensures.1 c.in_err-dial.ensures.took }

pub returns : goal.returns
returns g c = record { took = took_then c.in_ok-dial.ensures.took c.cheaper.ensures.took }
