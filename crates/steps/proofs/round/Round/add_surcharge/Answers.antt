use Rattle.steps.proofs.Steps.{took_then, took_broken}
use Rattle.steps.proofs.round.Round.add_surcharge.Goals as goal

pub returns-in_err-tested : goal.returns-in_err-tested
returns-in_err-tested g c = record { took = took_broken _ _ c.from_residual.ensures.1 (rw (c.extra.ensures, c.tests.ensures) at c.in_err-tested.ensures.took) }

pub returns : goal.returns
returns g c = record { took = took_then (rw (c.extra.ensures, c.tests.ensures) at c.in_ok-tested.ensures.took) c.sum.ensures.took }
