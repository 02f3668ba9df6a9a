-- A plan that was made has its way on the sheet. Assumes nothing.
use Rattle.std.proofs.Common.{◌≡◌, ℕ, List, length, take, vec_items, Some, Ok, Vec, sym, ap, ◌∙◌, subst}
use Rattle.std.specs.declared.alloc.Global.{Global}
use Rattle.model.specs.Contents.{Contents}
use Rattle.model.specs.Shelves.{Meaning}
use Rattle.planner.specs.declared.answer.Plan.TheVariants as plan
use Rattle.planner.specs.Plans.{Filled}
use Rattle.show.specs.declared.cue.Cue.{Cue}
use Rattle.show.specs.declared.cue.Cue.TheVariants.{Plan}
use Rattle.show.proofs.Agreements.{front}
use Rattle.planfile.specs.Telling.{Runs, Made}

module _ (c : Contents) (k t : ℕ) (old new : List ℕ) (way : Filled c k t old new) where
  many_on : length (take k new) ≡ k
  many_on = ap length (front c k t old new way) ∙ sym way.many

  runs_on : Runs c (take k new)
  runs_on = subst (Runs c) (sym (front c k t old new way)) (t, way.best.way.0, way.best.way.1)

module _ {S : Type 0} (meaning : S → Meaning) (c : Contents) (cue : Cue S) (made : Made meaning c cue)
    (shelf : S) (sheet : Vec ℕ Global) (k t r : ℕ) (is : cue ≡ Plan shelf sheet (Some (Ok (plan.Way k t r)))) where
  filled : Filled c k t (vec_items made.1) (vec_items sheet)
  filled =
      let p = made.2 in
      let same_answer : p.reply ≡ Ok (plan.Way k t r) = cc in
      let same_sheet : p.sheet_left ≡ sheet = cc in
      subst (λ v. Filled c k t (vec_items made.1) (vec_items v)) same_sheet (p.planned.way k t r same_answer).0

  pub many : length (take k (vec_items sheet)) ≡ k
  many = many_on c k t (vec_items made.1) (vec_items sheet) filled

  pub runs : Runs c (take k (vec_items sheet))
  runs = runs_on c k t (vec_items made.1) (vec_items sheet) filled
