-- The plans of the worked evening. Assumes nothing.
use Rattle.std.proofs.Common.{◌≡◌, true, [], ◌∷◌, Ok, Err, refl, arith}
use Rattle.model.specs.Contents.{slot}
use Rattle.model.specs.Calls.{Lawful, lawful_slot, withdrawn, wanting}
use Rattle.theory.specs.Performing.{Way}
use Rattle.theory.specs.Ways.{Best}
use Rattle.planner.specs.declared.answer.Plan.TheVariants as says
use Rattle.steps.specs.declared.fault.PlanFault.TheVariants.{SheetShort}
use Rattle.format.specs.Evening.{evening}
use Rattle.theory.proofs.Keeping.{calls_keep}
use Rattle.theory.proofs.Performing.{ways_are_runs}
use Rattle.evening.specs.Cases.{PlansAlike}
use Rattle.evening.proofs.Each.{◌&◌, each_below}
use Rattle.evening.proofs.Plans.{way_plans, short_plans, none_plans}
use Rattle.evening.proofs.Ways.{best_by, none_by}

lawful : Lawful evening
lawful = record { opens = refl; wants = refl; moves = each_below (λ k. lawful_slot evening.settings (slot evening k) ≡ true) 4 (refl & refl & refl & refl & tt) }

best : Best evening (0 ∷ 1 ∷ 2 ∷ []) 55
best = best_by evening lawful 55 refl

pub planned : PlansAlike evening 4096 (Ok (says.Way 3 55 2)) (0 ∷ 1 ∷ 2 ∷ [])
planned = way_plans evening 4096 (omega arith) 55 (0 ∷ 1 ∷ 2 ∷ []) best (omega arith)

pub short_sheet : PlansAlike evening 2 (Err (SheetShort 3)) []
short_sheet = short_plans evening 2 (omega arith) 55 (0 ∷ 1 ∷ 2 ∷ []) best (omega arith)

pub sheet_of_3 : PlansAlike evening 3 (Ok (says.Way 3 55 2)) (0 ∷ 1 ∷ 2 ∷ [])
sheet_of_3 = way_plans evening 3 (omega arith) 55 (0 ∷ 1 ∷ 2 ∷ []) best (omega arith)

pub other_way : Way evening (0 ∷ 3 ∷ []) 55
other_way = (ways_are_runs evening (0 ∷ 3 ∷ []) 55).1 (_, refl, refl, 40, (_, refl, refl, 0, (refl, refl), refl), refl)

pub without_0 : PlansAlike (withdrawn evening 0) 4096 (Ok (says.Way 1 90 1)) (3 ∷ [])
without_0 =
    let c = withdrawn evening 0 in
    way_plans c 4096 (omega arith) 90 (3 ∷ []) (best_by c ((calls_keep evening lawful).withdraw 0) 90 refl) (omega arith)

pub without_2_3 : PlansAlike (withdrawn (withdrawn evening 2) 3) 4096 (Ok (says.NoWay 0)) []
without_2_3 =
    let c = withdrawn (withdrawn evening 2) 3 in
    let law : Lawful (withdrawn evening 2) = (calls_keep evening lawful).withdraw 2 in
    none_plans c 4096 (omega arith) (none_by c ((calls_keep (withdrawn evening 2) law).withdraw 3) refl)

pub all_wanted : PlansAlike (wanting evening (3 ∷ 7 ∷ [])) 4096 (Ok (says.Way 0 0 0)) []
all_wanted =
    let c = wanting evening (3 ∷ 7 ∷ []) in
    way_plans c 4096 (omega arith) 0 [] (best_by c ((calls_keep evening lawful).want (3 ∷ 7 ∷ [])) 0 refl) (omega arith)
