-- Moves performed one after another. Assumes nothing.
use Rattle.std.proofs.Common.{◌≡◌, ℕ, ◌+◌, ◌<◌, ◌≤◌, List, [], ◌∷◌, ◌++◌, length, get_or, take, drop, Ok, Err, Result, sym, refl, ap, ◌∙◌, subst}
use Rattle.std.specs.Result.{IsOk}
use Rattle.std.proofs.lemmas.List.{drop_more, take_more, take_all}
use Rattle.model.specs.Contents.{Contents}
use Rattle.model.specs.Calls.{performs, performed}
use Rattle.moves.specs.declared.fault.RigFault.{RigFault}
use Rattle.moves.specs.Faults.{numbered}
use Rattle.report.specs.declared.step.Step.{Step}
use Rattle.planfile.specs.Telling.{Runs, Timed}

-- of these moves some are performed, and the rest can be
pub record Midway (c : Contents) (is : List ℕ) (k : ℕ) (xs : List Step) (d : Contents) : Type 0 where
  pub done : Timed c (take k is) xs d
  pub rest : Runs d (drop k is)

-- the next move is accepted
pub record Next (d : Contents) (i : ℕ) (is : List ℕ) : Type 0 where
  pub time : ℕ
  pub accepted : performs d i ≡ Ok time
  pub rest : Runs (performed d i) is

next_of : (d : Contents) (i : ℕ) (is : List ℕ) → Runs d (i ∷ is) → Next d i is
next_of d i is (t, e, (u, accepted, w, rest, sum)) = record { time = u; accepted = accepted; rest = (w, e, rest) }

timed_push : (c : Contents) (is : List ℕ) (xs : List Step) (d : Contents) (x : Step) →
    Timed c is xs d → performs d x.number ≡ Ok x.time → Timed c (is ++ x.number ∷ []) (xs ++ x ∷ []) (performed d x.number)
timed_push c [] [] d x h a = subst (λ e. Timed c (x.number ∷ []) (x ∷ []) (performed e x.number)) (sym h) (refl, subst (λ e. performs e x.number ≡ Ok x.time) h a, refl)
timed_push c [] (y ∷ ys) d x h a = absurd h
timed_push c (i ∷ is) [] d x h a = absurd h
timed_push c (i ∷ is) (y ∷ ys) d x (same, answered, more) a = (same, answered, timed_push (performed c i) is ys d x more a)

-- an answer of the code is one of the definition
pub is_ok_of : (r : Result ℕ RigFault) (t : ℕ) → numbered r ≡ Ok t → IsOk r
is_ok_of (Ok x) t e = refl
is_ok_of (Err f) t e = cc

module _ (c : Contents) (is : List ℕ) (k : ℕ) (xs : List Step) (d : Contents) (mid : Midway c is k xs d) where
  module _ (lt : k < length is) where
    pub accepts : Next d (get_or is k 0) (drop (k + 1) is)
    accepts = next_of d (get_or is k 0) (drop (k + 1) is) (subst (Runs d) (drop_more is k 0 lt) mid.rest)

    pub turn : (x : Step) → x.number ≡ get_or is k 0 → performs d (get_or is k 0) ≡ Ok x.time → Midway c is (k + 1) (xs ++ x ∷ []) (performed d (get_or is k 0))
    turn x same answered =
        record {
          done =
              subst (λ js. Timed c js (xs ++ x ∷ []) (performed d (get_or is k 0))) (sym (take_more is k 0 lt))
              (subst (λ j. Timed c (take k is ++ j ∷ []) (xs ++ x ∷ []) (performed d j)) same
              (timed_push c (take k is) xs d x mid.done (subst (λ j. performs d j ≡ Ok x.time) (sym same) answered)));
          rest = accepts.rest;
        }

    -- in the words of the code: the move's number n, the answer r with the time t, the step x that is pushed, what is left
    pub turned : (n : ℕ) (r : Result ℕ RigFault) (t : ℕ) (e : Contents) (x : Step) (ys : List Step) →
        n ≡ get_or is k 0 → numbered r ≡ performs d n → r ≡ Ok t → e ≡ performed d n →
        x.number ≡ get_or is k 0 → x.time ≡ t → ys ≡ xs ++ x ∷ [] → Midway c is (k + 1) ys e
    turned n r t e x ys is_n answer ok left same timed pushed =
        let answered : performs d (get_or is k 0) ≡ Ok x.time = subst (λ j. performs d j ≡ Ok x.time) is_n (sym answer ∙ ap numbered ok ∙ ap Ok (sym timed)) in
        subst (λ d. Midway c is (k + 1) ys d) (ap (performed d) (sym is_n) ∙ sym left)
        (subst (λ zs. Midway c is (k + 1) zs (performed d (get_or is k 0))) (sym pushed) (turn x same answered))

  pub ends : length is ≤ k → Timed c is xs d
  ends end = subst (λ js. Timed c js xs d) (take_all k is end) mid.done
