-- A cue as the call that it stands for. Assumes nothing.
use Rattle.std.specs.Prelude.{ℕ, List, vec_items}
use Rattle.model.specs.Moves.{Move, Surcharge}
use Rattle.model.specs.Shelves.{Meaning}
use Rattle.drafts.specs.Drafts.{draft_of, charges_of}
use Rattle.diagram.specs.declared.diagram_shelf.DiagramShelf.{DiagramShelf}
use Rattle.diagram.specs.Means.{means}
use Rattle.show.specs.declared.cue.Cue.{Cue}
use Rattle.show.specs.declared.cue.Cue.TheVariants.{Add, Retime, Withdraw, Perform, Want, Plan}

pub data Call : Type 0 where
  add : ℕ → Move → Call
  retime : ℕ → ℕ → List Surcharge → Call
  withdraw : ℕ → Call
  perform : ℕ → Call
  want : List ℕ → Call
  -- on a shelf that means this, with a sheet that holds these bytes
  plan : Meaning → List ℕ → Call

abbrev pub call_of : Cue DiagramShelf → Call
call_of (Add n draft reply) = add n (draft_of draft.now)
call_of (Retime n base charges reply) = retime n base (charges_of charges.now)
call_of (Withdraw n reply) = withdraw n
call_of (Perform n reply) = perform n
call_of (Want masks reply) = want (vec_items masks)
call_of (Plan shelf sheet reply) = plan (means shelf) (vec_items sheet)
