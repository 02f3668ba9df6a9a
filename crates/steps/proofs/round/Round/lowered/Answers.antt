use Rattle.steps.proofs.Steps.{took_then, took_broken}
use Rattle.steps.proofs.round.Round.lowered.Goals as goal

pub returns-in_err-tried : goal.returns-in_err-tried
returns-in_err-tried g c = rw c.in-Some.is (record { took = took_broken _ _ c.from_residual.ensures.1 c.in_err-tried.ensures.took })

pub returns : goal.returns
returns g c = rw c.in-Some.is (record { took = took_then c.in_ok-tried.ensures.took c.cheaper.ensures.took })
