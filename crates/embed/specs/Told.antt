-- Answers in numbers. Assumes nothing.
use Rattle.std.specs.Prelude.{◌≡◌, ℕ, false, is_some, unwrap_or, Option, Ok, Err, Result}
use Rattle.moves.specs.Faults as rig
use Rattle.diagram.specs.declared.open_fault.OpenFault.{OpenFault}
use Rattle.diagram.specs.declared.open_fault.OpenFault.TheVariants as shelf
use Rattle.steps.specs.declared.hanging.Hanging.{Hanging}
use Rattle.steps.specs.declared.hanging.Hanging.TheVariants.{Dial, Cheaper, Sum, Put}
use Rattle.steps.specs.declared.fault.PlanFault.{PlanFault}
use Rattle.steps.specs.declared.fault.PlanFault.TheVariants.{ShapesDiffer, NoRoom, SheetShort}
use Rattle.planner.specs.declared.answer.Plan.{Plan}
use Rattle.planner.specs.declared.answer.Plan.TheVariants as plan
use Rattle.embed.specs.declared.ran.Ran.{Ran}
use Rattle.embed.specs.declared.unfiled.Unfiled.{Unfiled}
use Rattle.embed.specs.declared.unfiled.Unfiled.TheVariants as unfiled
use Rattle.embed.specs.declared.unplanned.Unplanned.{Unplanned}
use Rattle.embed.specs.declared.unplanned.Unplanned.TheVariants.{NoRig, NoShelf, SentBack}
use Rattle.embed.specs.declared.unperformed.Unperformed.{Unperformed}
use Rattle.embed.specs.declared.unperformed.Unperformed.TheVariants as unperformed
use Rattle.embed.specs.declared.unrun.Unrun.TheVariants as unrun
use Rattle.embed.specs.declared.plan_answer.PlanAnswer.{PlanAnswer}
use Rattle.embed.specs.declared.file_answer.FileAnswer.{FileAnswer}

-- A plan

-- a verdict, a refusal's number, and the values beside it: the moves, the time, the rounds, the byte
abbrev pub plain : ℕ → ℕ → ℕ → ℕ → ℕ → ℕ → PlanAnswer
plain verdict refusal moves time rounds byte =
    record {
      verdict = verdict;
      refusal = refusal;
      call = 0;
      target = 0;
      first = 0;
      second = 0;
      third = 0;
      in_move = false;
      number = 0;
      moves = moves;
      time = time;
      rounds = rounds;
      byte = byte;
    }

-- a refusal for want of room: the call with its numbers, the round, and the move that was worked on, if one was
abbrev pub roomless : ℕ → ℕ → ℕ → ℕ → ℕ → ℕ → Option ℕ → PlanAnswer
roomless call target first second third round move =
    record {
      verdict = 2;
      refusal = 18;
      call = call;
      target = target;
      first = first;
      second = second;
      third = third;
      in_move = is_some move;
      number = unwrap_or move 0;
      moves = 0;
      time = 0;
      rounds = round;
      byte = 0;
    }

-- what is known of a refusal, with the numbers of a call that joins two pegs
abbrev pub joined_told : PlanAnswer → ℕ → ℕ → ℕ → ℕ → PlanAnswer
joined_told known call target left right =
    record {
      verdict = known.verdict;
      refusal = known.refusal;
      call = call;
      target = target;
      first = left;
      second = right;
      third = known.third;
      in_move = known.in_move;
      number = known.number;
      moves = known.moves;
      time = known.time;
      rounds = known.rounds;
      byte = known.byte;
    }

abbrev pub no_room_told : Hanging → ℕ → Option ℕ → PlanAnswer
no_room_told (Dial target device entries) = roomless 1 target device 0 0
no_room_told (Cheaper target left right) = roomless 2 target left right 0
no_room_told (Sum target left right) = roomless 3 target left right 0
no_room_told (Put target source device setting) = roomless 4 target source device setting

abbrev pub sent_back_told : PlanFault → PlanAnswer
sent_back_told ShapesDiffer = plain 2 17 0 0 0 0
sent_back_told (NoRoom fault call round move) = no_room_told call round move
sent_back_told (SheetShort needed) = plain 2 19 needed 0 0 0

abbrev pub no_shelf_told : OpenFault → PlanAnswer
no_shelf_told shelf.CountsOff = plain 2 1 0 0 0 0
no_shelf_told shelf.SlotsOff = plain 2 3 0 0 0 0
no_shelf_told shelf.NoMemory = plain 3 0 0 0 0 0

abbrev pub no_rig_told : Unfiled → PlanAnswer
no_rig_told unfiled.NoMemory = plain 3 0 0 0 0 0
no_rig_told (unfiled.Refused number byte) = plain 2 number 0 0 0 byte

abbrev pub unplanned_told : Unplanned → PlanAnswer
unplanned_told (NoRig f) = no_rig_told f
unplanned_told (NoShelf f) = no_shelf_told f
unplanned_told (SentBack f) = sent_back_told f

abbrev pub plan_told : Result Plan Unplanned → PlanAnswer
plan_told (Ok (plan.Way moves time rounds)) = plain 0 0 moves time rounds 0
plan_told (Ok (plan.NoWay rounds)) = plain 1 0 0 0 rounds 0
plan_told (Err f) = unplanned_told f

-- an answer that holds, in numbers
abbrev pub TellsPlan : (Result Plan Unplanned → Type 0) → PlanAnswer → Type 0
TellsPlan Holds told = (answer : Result Plan Unplanned) × Holds answer × (told ≡ plan_told answer)

-- A file

-- an ending, a refusal's number, and the values beside it: the place, the length, the time
abbrev pub ended : ℕ → ℕ → ℕ → ℕ → ℕ → FileAnswer
ended ending refusal place length time =
    record { ending = ending; refusal = refusal; place = place; length = length; time = time }

abbrev pub unperformed_told : Unperformed → FileAnswer
unperformed_told (unperformed.NoRig unfiled.NoMemory) = ended 5 0 0 0 0
unperformed_told (unperformed.NoRig (unfiled.Refused number byte)) = ended 1 number byte 0 0
unperformed_told (unperformed.NoRun unrun.TooLong) = ended 4 0 0 0 0
unperformed_told (unperformed.NoRun (unrun.Refused fault place)) = ended 2 (rig.number fault) place 0 0
unperformed_told (unperformed.Short fault) = ended 3 19 0 fault.needed 0

abbrev pub file_told : Result Ran Unperformed → FileAnswer
file_told (Ok r) = ended 0 0 0 r.length r.time
file_told (Err f) = unperformed_told f

abbrev pub TellsFile : (Result Ran Unperformed → Type 0) → FileAnswer → Type 0
TellsFile Holds told = (answer : Result Ran Unperformed) × Holds answer × (told ≡ file_told answer)
