-- What is known after each step from a file to its plan. Assumes nothing.
use Rattle.std.specs.Prelude.{◌≡◌, ℕ, List, replicate, ⊤, Ok, Err, Result}
use Rattle.model.specs.Contents.{Contents}
use Rattle.diagram.specs.declared.diagram_shelf.DiagramShelf.{DiagramShelf}
use Rattle.diagram.specs.declared.open_fault.OpenFault.TheVariants as opening
use Rattle.diagram.specs.Means.{means}
use Rattle.diagram.specs.Openings.{diagram_opened}
use Rattle.rig.specs.declared.frame.Rig.{Rig}
use Rattle.rig.specs.Rigs.{contents}
use Rattle.rigfile.specs.Reading.{Answers, untaken}
use Rattle.report.specs.declared.told.Told.{Told}
use Rattle.planfile.specs.declared.failure.Failure.{Failure}
use Rattle.planfile.specs.declared.failure.Failure.TheVariants.{Input, InputLong, Unread, Unopened, NoMemory, Unplanned}
use Rattle.planfile.specs.Coming.{move_slots, node_slots, sheet_length}
use Rattle.planfile.specs.Telling.{Tells}

-- a rig was read from the bytes, or read refused them, or there was no memory for the slots
abbrev pub ReadFrom : List ℕ → Result Rig Failure → Type 0
ReadFrom bytes (Ok rig) = Answers bytes move_slots (Ok (contents rig))
ReadFrom bytes (Err (Unread fault)) = Answers bytes move_slots (Err (untaken fault))
ReadFrom bytes (Err NoMemory) = ⊤
ReadFrom bytes (Err InputLong) = ⊥
ReadFrom bytes (Err (Input error)) = ⊥
ReadFrom bytes (Err (Unopened fault)) = ⊥
ReadFrom bytes (Err (Unplanned fault)) = ⊥

-- a shelf was opened for a rig with the contents c, or there was no memory for it
abbrev pub ShelfFor : Contents → Result DiagramShelf Failure → Type 0
ShelfFor c (Ok shelf) = means shelf ≡ diagram_opened c.settings node_slots
ShelfFor c (Err failure) = failure ≡ Unopened opening.NoMemory

-- the rig was planned on such a shelf and a blank sheet, or there was no memory for them
abbrev pub PlannedAnew : Contents → Result Told Failure → Type 0
PlannedAnew c (Ok told) = Tells c (diagram_opened c.settings node_slots) (replicate sheet_length 0) (Ok told)
PlannedAnew c (Err (Unplanned fault)) = Tells c (diagram_opened c.settings node_slots) (replicate sheet_length 0) (Err (Unplanned fault))
PlannedAnew c (Err (Unopened fault)) = fault ≡ opening.NoMemory
PlannedAnew c (Err NoMemory) = ⊤
PlannedAnew c (Err InputLong) = ⊥
PlannedAnew c (Err (Input error)) = ⊥
PlannedAnew c (Err (Unread fault)) = ⊥
