-- What comes of an input: the whole of what the program answers. Assumes nothing.
use Rattle.std.specs.Prelude.{◌≡◌, ℕ, ◌<◌, ◌≤◌, List, length, replicate, ⊤, Ok, Err, Result}
use Rattle.model.specs.Contents.{Contents}
use Rattle.diagram.specs.Openings.{diagram_opened}
use Rattle.diagram.specs.declared.open_fault.OpenFault.TheVariants as opening
use Rattle.rigfile.specs.Reading.{Answers, untaken}
use Rattle.report.specs.declared.told.Told.{Told}
use Rattle.planfile.specs.declared.failure.Failure.{Failure}
use Rattle.planfile.specs.declared.failure.Failure.TheVariants.{Input, InputLong, Unread, Unopened, NoMemory, Unplanned}
use Rattle.planfile.specs.Inputs.{most_input}
use Rattle.planfile.specs.Telling.{Tells}

abbrev pub move_slots : ℕ
move_slots = 255

abbrev pub node_slots : ℕ
node_slots = 512

abbrev pub sheet_length : ℕ
sheet_length = 4096

-- the bytes were read as a rig, which was planned on a new diagram shelf and a blank sheet
pub record Planned (bytes : List ℕ) (told : Result Told Failure) : Type 0 where
  pub few : length bytes ≤ most_input
  pub rig : Contents
  pub read : Answers bytes move_slots (Ok rig)
  pub tells : Tells rig (diagram_opened rig.settings node_slots) (replicate sheet_length 0) told

-- an input of these bytes is planned, or is too long, or is refused by read; or it could not be read, or memory ran out
abbrev pub Comes : List ℕ → Result Told Failure → Type 0
Comes bytes (Ok told) = Planned bytes (Ok told)
Comes bytes (Err (Unplanned fault)) = Planned bytes (Err (Unplanned fault))
Comes bytes (Err InputLong) = most_input < length bytes
Comes bytes (Err (Unread fault)) = (length bytes ≤ most_input) × Answers bytes move_slots (Err (untaken fault))
Comes bytes (Err (Unopened fault)) = fault ≡ opening.NoMemory
Comes bytes (Err (Input error)) = ⊤
Comes bytes (Err NoMemory) = ⊤
