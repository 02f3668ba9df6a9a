-- Calls, and what comes of them. Assumes nothing.
use Rattle.std.specs.Prelude.{◌≡◌, ℕ, ◌<◌, List, ◌++◌, length, take, drop, Ok, Result}
use Rattle.std.specs.List.{flat_map}
use Rattle.model.specs.Limits.{peg_count}
use Rattle.model.specs.Scenes.{Shape}
use Rattle.model.specs.Charts.{Time}
use Rattle.model.specs.Moves.{Surcharge}
use Rattle.model.specs.Contents.{Contents}
use Rattle.model.specs.Calls.{withdraws, performs, wants, retimes, CountsWanted}
use Rattle.model.specs.Shelves as shelf
use Rattle.model.specs.Shelves.{Meaning, flat_opened}
use Rattle.theory.specs.Performing.{Way}
use Rattle.theory.specs.Alike.{Alike}
use Rattle.rule.specs.Running.{Fits}
use Rattle.rule.specs.Rule.{rule}
use Rattle.steps.specs.declared.fault.PlanFault.{PlanFault}
use Rattle.planner.specs.declared.answer.Plan.{Plan}
use Rattle.planner.specs.Plans.{cleared, Planned}
use Rattle.diagram.specs.Openings.{diagram_opens, diagram_opened}
use Rattle.format.specs.Bytes.{two}
use Rattle.format.specs.Files as rig

-- a plan of contents c with a sheet of so many bytes says this, and leaves these bytes at the sheet's front
pub record Plans (c : Contents) (bytes : ℕ) (said : Result Plan PlanFault) (front : List ℕ) : Type 0 where
  -- on every shelf of the rig's shape that has room, whatever it carries, this is what a plan's promises leave
  pub always :
      (m n : Meaning) (old new : List ℕ) (answer : Result Plan PlanFault) → Planned c m old answer n new →
      m.shape ≡ c.settings → Fits (cleared m) (rule c) → length old ≡ bytes →
      (answer ≡ said) × (new ≡ front ++ drop (length front) old)
  -- a new flat shelf has room, and so has a new diagram shelf with 512 node slots
  pub flat : Fits (cleared (flat_opened c.settings)) (rule c)
  pub diagram : Fits (cleared (diagram_opened c.settings 512)) (rule c)

-- and so does a plan of any contents that are alike, as with further slots that are vacant
abbrev pub PlansAlike : Contents → ℕ → Result Plan PlanFault → List ℕ → Type 0
PlansAlike c bytes said front = (d : Contents) → Alike c d → c.settings ≡ d.settings → Plans d bytes said front

pub data Case : Type 0 where
  -- a file's length, and the offsets of its devices, scene and moves
  file : Contents → ℕ → List ℕ → Case
  -- a plan with a sheet of so many bytes: its answer, and the sheet's front
  plan : Contents → ℕ → Result Plan PlanFault → List ℕ → Case
  -- a run of accepted performs to a wanted scene, and its time
  run : Contents → List ℕ → ℕ → Case
  -- the other calls on a rig, each with its answer; retime is called on each slot
  perform : Contents → ℕ → Result ℕ ℕ → Case
  withdraw : Contents → ℕ → Result (Unit {0}) ℕ → Case
  want : Contents → List ℕ → Result ℕ ℕ → Case
  retime : Contents → ℕ → List Surcharge → Result (Unit {0}) ℕ → Case
  -- a dial on a new diagram shelf of a shape and so many node slots: the device, the entries for its settings, the answer
  dial : Shape → ℕ → ℕ → List Time → Result (Unit {0}) ℕ → Case

abbrev pub Holds : Case → Type 0
Holds (file c many offsets) = (length (rig.file c) ≡ many) × (take 6 (drop 4 (rig.file c)) ≡ flat_map two offsets)
Holds (plan c bytes said front) = PlansAlike c bytes said front
Holds (run c moves tenths) = Way c moves tenths
Holds (perform c n said) = performs c n ≡ said
Holds (withdraw c n said) = withdraws c n ≡ said
Holds (want c masks said) = (wants c masks ≡ said) × CountsWanted c masks said
Holds (retime c base xs said) = (n : ℕ) → n < length c.slots → retimes c n base xs ≡ said
Holds (dial ns slots v es said) =
    (diagram_opens ns slots ≡ Ok tt)
    × ((p : ℕ) (unread : List Time) → p < peg_count → shelf.does (diagram_opened ns slots) (shelf.dial p v (es ++ unread)) ≡ said)
