use Rattle.steps.proofs.Steps.{took_then, took_broken}
use Rattle.rounds.proofs.rounds.before_rounds.Goals as goal

pub returns-in_err-dial : goal.returns-in_err-dial
returns-in_err-dial g c =
    let parts = rw c.unwrap.ensures at c.split_first.ensures.cases in
    rw parts.0 (record { took = took_broken _ _ c.from_residual.ensures.1 (rw c.admitting.ensures at c.in_err-dial.ensures.took) })

pub returns : goal.returns
returns g c =
    let parts = rw c.unwrap.ensures at c.split_first.ensures.cases in
    rw parts.0 (record { took = took_then (rw c.admitting.ensures at c.in_ok-dial.ensures.took) c.masked.ensures.took })
