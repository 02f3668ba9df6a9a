-- How many different parts there are, as statements. Assumes nothing.
use Rattle.std.specs.Prelude.{◌≡◌, ℕ, ◌<◌, ◌≤◌, List, Some, ◌≢◌}
use Rattle.model.specs.Charts.{Chart}
use Rattle.model.specs.Lists.{In}
use Rattle.model.specs.Parts.{Part, same_part, different, parts}
use Rattle.model.specs.Scenes.{Shape}
use Rattle.parts.specs.Shifts.{later}

-- each part is the name of one of n slots
abbrev pub Room : Type 0
Room = (name : ℕ → Part) (n : ℕ) (ps : List Part) → ((p : Part) → In p ps → (i : ℕ) × (i < n) × (p ≡ name i)) → different same_part ps ≤ n

-- n slots have different names, each a part, and one more part is the name of none
abbrev pub NoRoom : Type 0
NoRoom =
    (name : ℕ → Part) (n : ℕ) (ps : List Part) → ((i j : ℕ) → i < n → j < n → name i ≡ name j → i ≡ j)
    → ((i : ℕ) → i < n → In (name i) ps) → (p : Part) → In p ps → ((i : ℕ) → i < n → p ≢ name i) → n < different same_part ps

abbrev pub Shifts : Type 0
Shifts = (ns : Shape) (k v : ℕ) (c : Chart) → parts ns k (later (Some v) c) ≡ parts ns k c
