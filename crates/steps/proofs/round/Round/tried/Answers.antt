use Rattle.std.proofs.Common.{Some, ap, ◌∙◌}
use Rattle.rule.specs.Steps.{entries}
use Rattle.steps.proofs.Steps.{took_then, took_broken}
use Rattle.steps.proofs.round.Round.tried.Goals as goal

pub returns-in_err-cheaper : goal.returns-in_err-cheaper
returns-in_err-cheaper g c = record { took = took_broken _ _ c.from_residual.ensures.1 c.in_err-cheaper.ensures.took }

pub returns-in_err-effected : goal.returns-in_err-effected
returns-in_err-effected g c =
    let broken = took_broken _ _ c.from_residual-in_err-effected.ensures.1 (rw c.effects.ensures at c.in_err-effected.ensures.took) in
    record { took = took_then c.in_ok-cheaper.ensures.took broken }

pub returns-in_err-conditioned : goal.returns-in_err-conditioned
returns-in_err-conditioned g c =
    let effected = rw c.effects.ensures at c.in_ok-effected.ensures.took in
    let broken = took_broken _ _ c.from_residual-in_err-conditioned.ensures.1 (rw c.conditions.ensures at c.in_err-conditioned.ensures.took) in
    record { took = took_then c.in_ok-cheaper.ensures.took (took_then effected broken) }

pub returns-in_err-add_dial : goal.returns-in_err-add_dial
returns-in_err-add_dial g c =
    let effected = rw c.effects.ensures at c.in_ok-effected.ensures.took in
    let conditioned = rw c.conditions.ensures at c.in_ok-conditioned.ensures.took in
    let throughout = c.throughout.ensures ∙ ap (λ n. entries (λ _. Some n)) c.base.ensures in
    let broken = took_broken _ _ c.from_residual-in_err-add_dial.ensures.1 (rw throughout at c.in_err-add_dial.ensures.took) in
    record { took = took_then c.in_ok-cheaper.ensures.took (took_then effected (took_then conditioned broken)) }

pub returns : goal.returns
returns g c =
    let effected = rw c.effects.ensures at c.in_ok-effected.ensures.took in
    let conditioned = rw c.conditions.ensures at c.in_ok-conditioned.ensures.took in
    let throughout = c.throughout.ensures ∙ ap (λ n. entries (λ _. Some n)) c.base.ensures in
    let based = rw throughout at c.in_ok-add_dial.ensures.took in
    let surcharged = rw c.surcharges.ensures at c.surcharged.ensures.took in
    record { took = took_then c.in_ok-cheaper.ensures.took (took_then effected (took_then conditioned (took_then based surcharged))) }
