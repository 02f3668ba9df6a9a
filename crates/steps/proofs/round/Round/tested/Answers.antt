use Rattle.steps.proofs.Steps.{took_then, took_broken}
use Rattle.steps.proofs.round.Round.tested.Goals as goal

pub returns-in_err-dial : goal.returns-in_err-dial
returns-in_err-dial g c = rw c.in-Some.ensures.cases.0 (record { took = took_broken _ _ c.from_residual.ensures.1 (rw c.dearer.ensures at c.in_err-dial.ensures.took) })

pub returns : goal.returns
returns g c = rw c.in-Some.ensures.cases.0 (record { took = took_then (rw c.dearer.ensures at c.in_ok-dial.ensures.took) c.further.ensures.took })
