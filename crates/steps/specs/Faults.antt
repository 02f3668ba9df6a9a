-- The refusals of a plan by their numbers, and what each holds. Assumes nothing.
use Rattle.std.specs.Prelude.{◌≡◌, ℕ, Option}
use Rattle.model.specs.Shelves as model
use Rattle.model.specs.Shelves.{Call}
use Rattle.rule.specs.Steps.{Step}
use Rattle.shelf.specs.Faults as shelf
use Rattle.steps.specs.declared.hanging.Hanging.{Hanging}
use Rattle.steps.specs.declared.hanging.Hanging.TheVariants.{Dial, Cheaper, Sum, Put}
use Rattle.steps.specs.declared.halt.Halt.{Halt}
use Rattle.steps.specs.declared.fault.PlanFault.{PlanFault}
use Rattle.steps.specs.declared.fault.PlanFault.TheVariants.{ShapesDiffer, NoRoom, SheetShort}

-- the call that the code's value stands for
abbrev pub call_of : Hanging → Call
call_of (Dial t v es) = model.dial t v es
call_of (Cheaper t a b) = model.cheaper t a b
call_of (Sum t a b) = model.sum t a b
call_of (Put t a v d) = model.put t a v d

-- a shelf's refusal has the shelf's own number
abbrev pub number : PlanFault → ℕ
number ShapesDiffer = 17
number (NoRoom fault call round move) = shelf.number fault
number (SheetShort needed) = 19

abbrev pub step_of : Hanging → ℕ → Option ℕ → Step
step_of call round move = record { round = round; move = move; call = call_of call }

-- a call was refused: the number of the refusal, and the step that makes the call
pub record Stop : Type 0 where
  pub number : ℕ
  pub step : Step

-- the refusal that a halt stands for, while the move was worked on, if one was
abbrev pub OfHalt : Option ℕ → Halt → Stop → Type 0
OfHalt o h s = s ≡ record { number = shelf.number h.fault; step = step_of h.call h.round o }

-- the refusal that the fault of a plan stands for
abbrev pub OfFault : PlanFault → Stop → Type 0
OfFault ShapesDiffer s = ⊥
OfFault (NoRoom fault call round move) s = s ≡ record { number = shelf.number fault; step = step_of call round move }
OfFault (SheetShort needed) s = ⊥
