-- The numbers of failures. Assumes nothing.
use Rattle.std.specs.Prelude.{ℕ, Some, None, Option}
use Rattle.diagram.specs.Openings as opening
use Rattle.steps.specs.Faults as plan
use Rattle.rigfile.specs.Reading.{untaken}
use Rattle.planfile.specs.declared.failure.Failure.{Failure}
use Rattle.planfile.specs.declared.failure.Failure.TheVariants.{Input, InputLong, Unread, Unopened, NoMemory, Unplanned}

abbrev pub number : Failure → Option ℕ
number (Input error) = None
number InputLong = Some 20
number (Unread fault) = Some (untaken fault).number
number (Unopened fault) = opening.number fault
number NoMemory = None
number (Unplanned fault) = Some (plan.number fault)
