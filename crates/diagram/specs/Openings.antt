-- How a diagram shelf opens. Assumes nothing.
use Rattle.std.specs.Prelude.{◌≡◌, ℕ, ◌∷◌, [], replicate, Some, None, Option, Ok, Err, Result}
use Rattle.model.specs.Limits.{outside, most_nodes, peg_count}
use Rattle.model.specs.Refusals.{refuse, answer}
use Rattle.model.specs.Scenes.{Shape, shape_off}
use Rattle.model.specs.Shelves.{Meaning, diagram_fill}
use Rattle.diagram.specs.declared.diagram_shelf.DiagramShelf.{DiagramShelf}
use Rattle.diagram.specs.declared.open_fault.OpenFault.{OpenFault}
use Rattle.diagram.specs.declared.open_fault.OpenFault.TheVariants.{CountsOff, SlotsOff, NoMemory}
use Rattle.diagram.specs.Means.{means}

-- the refusals by their numbers; want of memory has none
abbrev pub number : OpenFault → Option ℕ
number CountsOff = Some 1
number SlotsOff = Some 3
number NoMemory = None

-- a diagram shelf needs node slots
abbrev pub diagram_opens : Shape → ℕ → Result (Unit {0}) ℕ
diagram_opens ns slots = answer (refuse 1 (shape_off ns) ∷ refuse 3 (outside 1 most_nodes slots) ∷ []) tt

-- and opens with every peg bare
abbrev pub diagram_opened : Shape → ℕ → Meaning
diagram_opened ns slots = record { shape = ns; capacity = slots; fill = diagram_fill ns; pegs = replicate peg_count None }

-- why a shelf does not open: where nothing else is wrong, there was no memory
abbrev pub Unopened : Shape → ℕ → OpenFault → Type 0
Unopened ns slots CountsOff = diagram_opens ns slots ≡ Err 1
Unopened ns slots SlotsOff = diagram_opens ns slots ≡ Err 3
Unopened ns slots NoMemory = diagram_opens ns slots ≡ Ok tt

abbrev pub Opened : Shape → ℕ → Result DiagramShelf OpenFault → Type 0
Opened ns slots (Ok s) = (diagram_opens ns slots ≡ Ok tt) × (means s ≡ diagram_opened ns slots)
Opened ns slots (Err f) = Unopened ns slots f
