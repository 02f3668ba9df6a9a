-- What comes of hanging a chart in lent slots. Assumes nothing.
use Rattle.std.specs.Prelude.{◌≡◌, ℕ, ◌<◌, ◌≤◌, Bool, true, false, List, length, Some, Option, slice_set}
use Rattle.nodes.specs.declared.node.Node.{Node}
use Rattle.model.specs.Charts.{Chart}
use Rattle.model.specs.Scenes.{Shape}
use Rattle.model.specs.Shelves.{Pegs, charts, diagram_fill}
use Rattle.store.specs.Fillings.{Owned}

-- what hanging answers, and the pegs before and after: no room exactly where the fill exceeds the slots
abbrev pub Told : ℕ → Shape → Pegs → Pegs → Chart → ℕ → Bool → Type 0
Told slots shape before after c target true = (diagram_fill shape before c ≤ slots) × (after ≡ slice_set before target (Some c))
Told slots shape before after c target false = (slots < diagram_fill shape before c) × (after ≡ before)

-- the same of one attempt, which knows the fill only where the slots have no more than the pegs' parts
abbrev pub Tried : List (Option Node) → Shape → Pegs → Pegs → Chart → ℕ → Bool → Type 0
Tried nodes shape before after c target true = (diagram_fill shape before c ≤ length nodes) × (after ≡ slice_set before target (Some c))
Tried nodes shape before after c target false = (Owned nodes shape (charts before) → length nodes < diagram_fill shape before c) × (after ≡ before)
