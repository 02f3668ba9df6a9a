-- What a call answers and leaves, by its checks. Assumes nothing.
use Rattle.std.proofs.Common.{◌≡◌, ℕ, Bool, true, false, cond, List, [], ◌∷◌, ◌++◌, Ok, Err, Result, refl, ◌∙◌}
use Rattle.std.specs.List.{AllByRecursion}
use Rattle.std.proofs.lemmas.Bool.{cond-true, cond-false}
use Rattle.model.specs.Refusals.{Check, refuse, answer, left_by}

passed : {T : Type 0} (b : Bool) (n : ℕ) (r : Result T ℕ) (y : T) → cond b (Err n) r ≡ Ok y → (b ≡ false) × (r ≡ Ok y)
passed true n r y e = (cc, cc)
passed false n r y e = (refl, e)

-- what is accepted passes each check
pub accepted : {T : Type 0} (cs : List Check) (x y : T) → answer cs x ≡ Ok y → AllByRecursion (λ k. k.holds ≡ false) cs
accepted [] x y e = tt
accepted (k ∷ cs) x y e =
    let both = passed k.holds k.number (answer cs x) y e in
    (both.0, accepted cs x y both.1)

-- what passes each check is accepted
pub accepts : {T : Type 0} (cs : List Check) (x : T) → AllByRecursion (λ k. k.holds ≡ false) cs → answer cs x ≡ Ok x
accepts [] x h = refl
accepts (k ∷ cs) x h = cond-false k.holds (Err k.number) (answer cs x) h.0 ∙ accepts cs x h.1

-- and its result is the one that is given
pub accepted_is : {T : Type 0} (cs : List Check) (x y : T) → answer cs x ≡ Ok y → x ≡ y
accepted_is [] x y e = cc
accepted_is (k ∷ cs) x y e = accepted_is cs x y (passed k.holds k.number (answer cs x) y e).1

-- the first check that holds is the answer
pub refuses : {T : Type 0} (before : List Check) (n : ℕ) (b : Bool) (after : List Check) (x : T) → AllByRecursion (λ k. k.holds ≡ false) before → b ≡ true → answer (before ++ (refuse n b ∷ after)) x ≡ Err n
refuses [] n b after x h e = cond-true b (Err n) (answer after x) e
refuses (k ∷ before) n b after x h e =
    cond-false k.holds (Err k.number) (answer (before ++ (refuse n b ∷ after)) x) h.0 ∙ refuses before n b after x h.1 e

-- checks that pass leave the answer to those after them
pub accepted_first : {T U : Type 0} (cs ds : List Check) (x z : T) (y : U) → answer cs x ≡ Ok z → answer (cs ++ ds) y ≡ answer ds y
accepted_first [] ds x z y e = refl
accepted_first (k ∷ cs) ds x z y e =
    let both = passed k.holds k.number (answer cs x) z e in
    cond-false k.holds (Err k.number) (answer (cs ++ ds) y) both.0 ∙ accepted_first cs ds x z y both.1

-- what is left, by what was answered
pub left_ok : {T C : Type 0} (r : Result T ℕ) (x : T) (new old : C) → r ≡ Ok x → left_by r new old ≡ new
left_ok r x new old e = rw e

pub left_err : {T C : Type 0} (r : Result T ℕ) (n : ℕ) (new old : C) → r ≡ Err n → left_by r new old ≡ old
left_err r n new old e = rw e

pub left_either : {T C : Type 0} (r : Result T ℕ) (new old : C) (P : C → Type 0) → ((x : T) → r ≡ Ok x → P new) → P old → P (left_by r new old)
left_either (Ok x) new old P h k = h x refl
left_either (Err n) new old P h k = k
