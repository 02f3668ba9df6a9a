-- The rig in a file, planned on a shelf that opens for it. Assumes nothing.
use Rattle.std.specs.Prelude.{◌≡◌, ℕ, List, Ok, Err, Result}
use Rattle.model.specs.Scenes.{Shape}
use Rattle.model.specs.Contents.{Contents}
use Rattle.model.specs.Shelves.{Meaning, flat_opened}
use Rattle.diagram.specs.Openings.{diagram_opened, Unopened}
use Rattle.steps.specs.declared.fault.PlanFault.{PlanFault}
use Rattle.planner.specs.declared.answer.Plan.{Plan}
use Rattle.planner.specs.Plans.{Planned}
use Rattle.embed.specs.declared.unplanned.Unplanned.{Unplanned}
use Rattle.embed.specs.declared.unplanned.Unplanned.TheVariants.{NoRig, NoShelf, SentBack}
use Rattle.embed.specs.Reads.{Reads, Unread}

-- the rig in the file is planned on a shelf that opens as `opened` says
abbrev pub PlannedOn : List ℕ → (Shape → Meaning) → List ℕ → Result Plan PlanFault → List ℕ → Type 0
PlannedOn file opened old answer new = (c : Contents) × Reads file (Ok c) × (n : Meaning) × Planned c (opened c.settings) old answer n new

-- with so many node slots; a sheet is written by a plan alone
abbrev pub OnNodes : List ℕ → ℕ → List ℕ → Result Plan Unplanned → List ℕ → Type 0
OnNodes file nodes old (Ok p) new = PlannedOn file (λ ns. diagram_opened ns nodes) old (Ok p) new
OnNodes file nodes old (Err (NoRig f)) new = Unread file f × (new ≡ old)
OnNodes file nodes old (Err (NoShelf f)) new = (c : Contents) × Reads file (Ok c) × Unopened c.settings nodes f × (new ≡ old)
OnNodes file nodes old (Err (SentBack f)) new = PlannedOn file (λ ns. diagram_opened ns nodes) old (Err f) new

-- on a flat shelf, which always opens where there is memory
abbrev pub OnCells : List ℕ → List ℕ → Result Plan Unplanned → List ℕ → Type 0
OnCells file old (Ok p) new = PlannedOn file flat_opened old (Ok p) new
OnCells file old (Err (NoRig f)) new = Unread file f × (new ≡ old)
OnCells file old (Err (NoShelf f)) new = ⊥
OnCells file old (Err (SentBack f)) new = PlannedOn file flat_opened old (Err f) new
