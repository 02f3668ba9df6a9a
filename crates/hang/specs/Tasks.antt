-- What is to be hung on a peg, when it may be, and what comes of it. Assumes nothing.
use Rattle.std.specs.Prelude.{◌≡◌, ℕ, ◌<◌, ◌≤◌, false, List, length, take, Some, None, Option, slice_index, slice_set}
use Rattle.nodes.specs.declared.node.Node.{Node}
use Rattle.nodes.specs.declared.remembered.Op.TheVariants.{Cheaper, Sum}
use Rattle.model.specs.Charts.{Chart, zipped, dialled, put_chart, late}
use Rattle.model.specs.Lists.{some}
use Rattle.model.specs.Scenes.{Shape}
use Rattle.model.specs.Shelves.{Pegs, Call, dial, cheaper, sum, put, on, bare, charts, diagram_fill}
use Rattle.store.specs.Fillings.{Owned}
use Rattle.memo.specs.Operations.{entry}
use Rattle.hang.specs.declared.task.Task.{Task}
use Rattle.hang.specs.declared.task.Task.TheVariants.{Dial, Join, Put}

-- the call of a shelf that hangs it
abbrev pub call_of : ℕ → Task → Call
call_of t (Dial v es) = dial t v es
call_of t (Join Cheaper a b) = cheaper t a b
call_of t (Join Sum a b) = sum t a b
call_of t (Put a v d) = put t a v d

-- the chart to be hung
abbrev pub made : Shape → Pegs → Task → Chart
made ns ps (Dial v es) = dialled ns v es
made ns ps (Join op a b) = zipped (entry op) (on ps a) (on ps b)
made ns ps (Put a v d) = put_chart ns v d (on ps a)

-- no refusal but for want of room
abbrev pub Allowed : Shape → Pegs → Task → Type 0
Allowed ns ps (Dial v es) = (v < length ns) × (some late (take (slice_index ns v) es) ≡ false)
Allowed ns ps (Join op a b) = (bare ps a ≡ false) × (bare ps b ≡ false) × (some late (zipped (entry op) (on ps a) (on ps b)) ≡ false)
Allowed ns ps (Put a v d) = (bare ps a ≡ false) × (v < length ns) × (d < slice_index ns v)

-- what hanging answers, and the pegs before and after: no room exactly where the fill exceeds the slots
abbrev pub Told : ℕ → Shape → Pegs → Pegs → Chart → ℕ → Option (Unit {0}) → Type 0
Told slots shape before after c target (Some _) = (diagram_fill shape before c ≤ slots) × (after ≡ slice_set before target (Some c))
Told slots shape before after c target None = (slots < diagram_fill shape before c) × (after ≡ before)

-- the same of one attempt, which knows the fill only where the store has no more than the pegs' parts
abbrev pub Tried : List (Option Node) → Shape → Pegs → Pegs → Chart → ℕ → Option (Unit {0}) → Type 0
Tried nodes shape before after c target (Some _) = (diagram_fill shape before c ≤ length nodes) × (after ≡ slice_set before target (Some c))
Tried nodes shape before after c target None = (Owned nodes shape (charts before) → length nodes < diagram_fill shape before c) × (after ≡ before)
