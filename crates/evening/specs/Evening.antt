-- The cases of the worked evening. Assumes nothing.
use Rattle.std.specs.Prelude.{List, [], ◌∷◌, Some, Ok, Err}
use Rattle.model.specs.Moves.{Surcharge}
use Rattle.model.specs.Calls.{performed, withdrawn, wanting}
use Rattle.planner.specs.declared.answer.Plan.TheVariants.{Way, NoWay}
use Rattle.steps.specs.declared.fault.PlanFault.TheVariants.{SheetShort}
use Rattle.format.specs.Evening.{evening}
use Rattle.evening.specs.Cases.{Case, file, plan, run, perform, withdraw, want, retime, dial}

-- an extra of 1 while the lamp is on
abbrev pub one_more : Surcharge
one_more = record { tests = record { device = 0; setting = 1 } ∷ []; extra = 1 }

-- in the order of docs/rules/worked-evening.md; a way has its moves, tenths and rounds, and the program's sheet 4,096 bytes
abbrev pub cases : List Case
cases =
    -- the plan, the other run that takes as long, and the file
    plan evening 4096 (Ok (Way 3 55 2)) (0 ∷ 1 ∷ 2 ∷ [])
    ∷ run evening (0 ∷ 3 ∷ []) 55
    ∷ file evening 89 (12 ∷ 30 ∷ 34 ∷ [])
    -- short sheets
    ∷ plan evening 2 (Err (SheetShort 3)) []
    ∷ plan evening 3 (Ok (Way 3 55 2)) (0 ∷ 1 ∷ 2 ∷ [])
    -- move 0 performed twice, and the further moves of the plan
    ∷ perform evening 0 (Ok 15)
    ∷ perform (performed evening 0) 0 (Err 12)
    ∷ perform (performed evening 0) 1 (Ok 20)
    ∷ perform (performed (performed evening 0) 1) 2 (Ok 20)
    -- plans without some moves
    ∷ withdraw evening 0 (Ok tt)
    ∷ plan (withdrawn evening 0) 4096 (Ok (Way 1 90 1)) (3 ∷ [])
    ∷ withdraw evening 2 (Ok tt)
    ∷ withdraw (withdrawn evening 2) 3 (Ok tt)
    ∷ plan (withdrawn (withdrawn evening 2) 3) 4096 (Ok (NoWay 0)) []
    -- other masks
    ∷ want evening (3 ∷ 8 ∷ []) (Err 13)
    ∷ want evening (3 ∷ 0 ∷ []) (Err 13)
    ∷ want evening (3 ∷ 7 ∷ []) (Ok 6)
    ∷ plan (wanting evening (3 ∷ 7 ∷ [])) 4096 (Ok (Way 0 0 0)) []
    -- the longest move, and one that would be longer
    ∷ retime evening 65535 [] (Ok tt)
    ∷ retime evening 65535 (one_more ∷ []) (Err 11)
    -- a chart of three parts, with room and without
    ∷ dial (2 ∷ 3 ∷ 2 ∷ []) 3 0 (Some 0 ∷ Some 5 ∷ []) (Ok tt)
    ∷ dial (2 ∷ 3 ∷ 2 ∷ []) 2 0 (Some 0 ∷ Some 5 ∷ []) (Err 18)
    ∷ []
