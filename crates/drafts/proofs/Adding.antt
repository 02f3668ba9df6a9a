-- A sum that stays at the greatest number of 32 bits once it is reached, as a fold over the surcharges. Assumes nothing.
use Rattle.std.proofs.Common.{◌≡◌, ℕ, ◌+◌, ◌-◌, ◌^◌, ◌≤◌, min, List, [], ◌∷◌, ◌∙◌, arith}
use Rattle.std.specs.List.{fold}
use Rattle.model.specs.Lists.{total}
use Rattle.model.specs.Calls.{extra}
use Rattle.drafts.specs.declared.draft.Charge.{Charge}
use Rattle.drafts.specs.Drafts.{charges_of}

-- one surcharge more
abbrev pub step : ℕ → Charge → ℕ
step sum x = min (sum + x.extra) (2 ^ 32 - 1)

pub fold_is_total : (base : ℕ) (xs : List Charge) → base ≤ 2 ^ 32 - 1 → fold step base xs ≡ min (base + total extra (charges_of xs)) (2 ^ 32 - 1)
fold_is_total base [] low = omega arith
fold_is_total base (x ∷ xs) low = fold_is_total (step base x) xs (omega arith) ∙ omega arith
