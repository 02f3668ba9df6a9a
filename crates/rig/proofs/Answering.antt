-- What a call answers and leaves, by the fault that it met. Assumes nothing.
use Rattle.std.proofs.Common.{◌≡◌, ℕ, List, ◌++◌, Ok, Err, Option, Result, IsErrAnd, sym, ap, subst, ◌∙◌}
use Rattle.std.proofs.lemmas.Result.{err_from_is_err_and}
use Rattle.model.specs.Scenes.{Shape}
use Rattle.model.specs.Moves as model
use Rattle.model.specs.Refusals.{Check, answer, left_by}
use Rattle.model.specs.Contents.{Contents}
use Rattle.model.specs.Calls.{Lawful, performed}
use Rattle.theory.proofs.Keeping.{calls_keep}
use Rattle.model.proofs.Refusing.{accepted_first, left_err}
use Rattle.moves.specs.declared.fault.RigFault.{RigFault}
use Rattle.moves.specs.Faults.{number, numbered}

-- a `?` that refuses: the call answers the fault's number, and leaves all as it was
pub record Refused {T C : Type 0} (defined : Result T ℕ) (new old : C) (r : Result T RigFault) : Type 0 where
  pub answer : numbered r ≡ defined
  pub left : old ≡ left_by defined new old

pub refused_by : {T C : Type 0} (defined : Result T ℕ) (new old : C) (f : RigFault) → defined ≡ Err (number f) → (r : Result T RigFault) → IsErrAnd r (λ y. y ≡ f) → Refused defined new old r
refused_by defined new old f e r h =
    let p = err_from_is_err_and r h in
    record { answer = ap numbered (p.1 ∙ ap Err p.2) ∙ sym e; left = sym (left_err defined (number f) new old e) }

-- the checks of a slot passed, and those by the shape were answered
pub then_judged : (c : Contents) (first : List (Option model.Move) → List Check) (checks : Shape → List Check) {xs : List (Option model.Move)} {ns : Shape} {r : Result (Unit {0}) ℕ} → xs ≡ c.slots → ns ≡ c.settings → answer (first xs) (tt {0}) ≡ Ok (tt {0}) → answer (checks ns) (tt {0}) ≡ r → answer (first c.slots ++ checks c.settings) (tt {0}) ≡ r
then_judged c first checks {xs} {ns} {r} seen shape passed e =
    accepted_first (first c.slots) (checks c.settings) tt tt tt (ap (λ (l : List (Option model.Move)). answer (first l) tt) (sym seen) ∙ passed)
    ∙ ap (λ (k : Shape). answer (checks k) tt) (sym shape)
    ∙ e

-- what a perform leaves is lawful
pub performed_lawful : (c : Contents) → Lawful c → (n : ℕ) (d : Contents) → d ≡ performed c n → Lawful d
performed_lawful c law n d left = subst Lawful (sym left) ((calls_keep c law).perform n)
