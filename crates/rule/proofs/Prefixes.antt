-- Steps up to a step: what overfills first, and one round more. Assumes nothing.
use Rattle.std.proofs.Common.{◌≡◌, ℕ, zero, suc, ◌+◌, ◌-◌, Bool, true, false, cond, List, [], ◌∷◌, ◌++◌, Some, None, Option, sym, refl, ap, ◌∙◌, subst, arith}
use Rattle.std.specs.List.{range_with_len, flat_map}
use Rattle.std.proofs.lemmas.List.{append_assoc, append-nil}
use Rattle.model.specs.Moves.{Move}
use Rattle.model.specs.Shelves.{Meaning, after, with_pegs, overfills}
use Rattle.rule.specs.Steps.{Step, copy, marked, round_0, round, changing}
use Rattle.rule.specs.Running.{after_steps, first_overfilling, Fits, First, Told, OverfillingTold}
use Rattle.rule.specs.Rule.{count, start, so_far}
use Rattle.rule.specs.Bridge.{RuleGoesOn}

nil_is_not : (x : Step) (done left : List Step) → [] ≡ done ++ (x ∷ left) → ⊥
nil_is_not x [] left e = let z : ◌≡◌ {A = ℕ} 0 1 = cc in absurd (omega arith)
nil_is_not x (y ∷ done) left e = let z : ◌≡◌ {A = ℕ} 0 1 = cc in absurd (omega arith)

abbrev pub after_one : Meaning → Step → Meaning
after_one m x = with_pegs m (after m.shape m.pegs x.call)

fits_more : (m : Meaning) (x : Step) (xs : List Step) → overfills m x.call ≡ false → Fits (after_one m x) xs → Fits m (x ∷ xs)
fits_more m x xs h f [] left y e =
    let same : x ≡ y = cc in
    subst (λ (z : Step). overfills m z.call ≡ false) same h
fits_more m x xs h f (z ∷ done) left y e =
    let same : x ≡ z = cc in
    let more : xs ≡ done ++ (y ∷ left) = cc in
    subst (λ (z : Step). overfills (after_steps (after_one m z) done) y.call ≡ false) same (f done left y more)

first_more : (m : Meaning) (x : Step) (xs : List Step) (y : Step) → overfills m x.call ≡ false → First (after_one m x) xs y → First m (x ∷ xs) y
first_more m x xs y h f =
    record { done = x ∷ f.done; left = f.left; split = ap (λ zs. x ∷ zs) f.split; fits = fits_more m x f.done h f.fits; overfilling = f.overfilling }

told_more : (m : Meaning) (x : Step) (xs : List Step) (o : Option Step) → overfills m x.call ≡ false → Told (after_one m x) xs o → Told m (x ∷ xs) o
told_more m x xs None h f = fits_more m x xs h f
told_more m x xs (Some y) h f = first_more m x xs y h f

pub overfilling_told : OverfillingTold
overfilling_told m [] = λ done left x e. absurd (nil_is_not x done left e)
overfilling_told m (x ∷ xs) = go (overfills m x.call) refl (overfilling_told (after_one m x) xs)
  where
    go : (b : Bool) → overfills m x.call ≡ b → Told (after_one m x) xs (first_overfilling (after_one m x) xs) → Told m (x ∷ xs) (cond b (Some x) (first_overfilling (after_one m x) xs))
    go true e f = record { done = []; left = xs; split = refl; fits = λ done left y s. absurd (nil_is_not y done left s); overfilling = e }
    go false e f = told_more m x xs (first_overfilling (after_one m x) xs) e f

-- a step that overfills among the first, or else among the others
abbrev pub or_else : Option Step → Option Step → Option Step
or_else None o = o
or_else (Some x) o = Some x

-- what overfills first in two lists one after the other; no proof needs it: a law of `first_overfilling` for its reader
pub overfilling_append : (m : Meaning) (xs ys : List Step) → first_overfilling m (xs ++ ys) ≡ or_else (first_overfilling m xs) (first_overfilling (after_steps m xs) ys)
overfilling_append m [] ys = refl
overfilling_append m (x ∷ xs) ys = go (overfills m x.call) (overfilling_append (after_one m x) xs ys)
  where
    go : (b : Bool) → first_overfilling (after_one m x) (xs ++ ys) ≡ or_else (first_overfilling (after_one m x) xs) (first_overfilling (after_steps (after_one m x) xs) ys) →
        cond b (Some x) (first_overfilling (after_one m x) (xs ++ ys)) ≡ or_else (cond b (Some x) (first_overfilling (after_one m x) xs)) (first_overfilling (after_steps (after_one m x) xs) ys)
    go true e = refl
    go false e = e

-- One round more

joined_last : (f : ℕ → List Step) (j n : ℕ) → flat_map f (range_with_len j (n + 1)) ≡ flat_map f (range_with_len j n) ++ f (j + n)
joined_last f j zero =
    let z : j ≡ j + 0 = omega arith in
    append-nil (f j) ∙ ap f z
joined_last f j (suc n) =
    let z : j + 1 + n ≡ j + suc n = omega arith in
    let y : suc n + 1 ≡ suc (n + 1) = omega arith in
    ap (λ k. flat_map f (range_with_len j k)) y ∙ ap (λ xs. f j ++ xs) (joined_last f (j + 1) n) ∙ sym (append_assoc (f j) (flat_map f (range_with_len (j + 1) n)) (f (j + 1 + n)))
    ∙ ap (λ i. flat_map f (range_with_len j (suc n)) ++ f i) z

pub start_more : (slots : List (Option Move)) (masks : List ℕ) (n : ℕ) → start slots masks (n + 1) ≡ start slots masks n ++ changing slots (n + 1)
start_more slots masks n =
    let z : 1 + n ≡ n + 1 = omega arith in
    ap (λ xs. marked 0 None (round_0 masks) ++ xs) (joined_last (changing slots) 1 n)
    ∙ sym (append_assoc (marked 0 None (round_0 masks)) (flat_map (changing slots) (range_with_len 1 n)) (changing slots (1 + n)))
    ∙ ap (λ i. start slots masks n ++ changing slots i) z

-- k rounds more
more_rounds : (slots : List (Option Move)) (masks : List ℕ) (k n : ℕ) →
    (left : List Step) × (start slots masks (n + k) ++ round (n + k + 1) slots ≡ (start slots masks n ++ round (n + 1) slots) ++ left)
more_rounds slots masks zero n =
    let z : n + 0 ≡ n = omega arith in
    ([], ap (λ i. start slots masks i ++ round (i + 1) slots) z ∙ sym (append-nil (start slots masks n ++ round (n + 1) slots)))
more_rounds slots masks (suc k) n =
    let old = more_rounds slots masks k (n + 1) in
    let last : List Step = marked (n + 1) None (copy 0 1 ∷ []) in
    let next : List Step = round (n + 1 + 1) slots ++ old.0 in
    let front = start slots masks n in
    let here = round (n + 1) slots in
    let z : n + suc k ≡ n + 1 + k = omega arith in (
      last ++ next,
      ap (λ i. start slots masks i ++ round (i + 1) slots) z ∙ old.1 ∙ append_assoc (start slots masks (n + 1)) (round (n + 1 + 1) slots) old.0
          ∙ ap (λ xs. xs ++ next) (start_more slots masks n ∙ sym (append_assoc front here last)) ∙ append_assoc (front ++ here) last next,
    )

pub rule_goes_on : RuleGoesOn
rule_goes_on c n h =
    let z : n + (count c - n) ≡ count c = omega arith in
    let more = more_rounds c.slots c.masks (count c - n) n in
    (more.0, ap (so_far c) (sym z) ∙ more.1)
