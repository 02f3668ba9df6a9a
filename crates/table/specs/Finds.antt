-- What a search among open-addressed slots answers, and what interning leaves. Assumes nothing.
use Rattle.std.specs.Prelude.{◌≡◌, ℕ, ◌<◌, ◌≤◌, ◌⊎◌, true, List, length, is_some, Some, None, Option, ◌≢◌}
use Rattle.table.specs.Tables.{slot, Reached, Absent, Occupied}
use Rattle.table.specs.declared.found.Found.{Found}
use Rattle.table.specs.declared.found.Found.TheVariants.{At, Free, Full}

-- slot i holds an entry with the key of e
pub record Holds {E : Type 0} (alike : E → E → Type 0) (slots : List (Option E)) (e : E) (i : ℕ) : Type 0 where
  pub within : i < length slots
  pub entry : E
  pub here : slot slots i ≡ Some entry
  pub like : alike entry e

-- e has no slot, and belongs into the free slot i
pub record Open {E : Type 0} (alike : E → E → Type 0) (initial : E → ℕ → ℕ) (slots : List (Option E)) (e : E) (i : ℕ) : Type 0 where
  pub within : i < length slots
  pub empty : slot slots i ≡ None
  pub reached : Reached slots (initial e (length slots)) i
  pub absent : Absent alike slots e

-- e has no slot, and none is free
pub record Crowded {E : Type 0} (alike : E → E → Type 0) (slots : List (Option E)) (e : E) : Type 0 where
  pub all : Occupied slots
  pub absent : Absent alike slots e

abbrev pub Finds : {E : Type 0} → (E → E → Type 0) → (E → ℕ → ℕ) → List (Option E) → E → Found → Type 0
Finds alike initial slots e (At i) = Holds alike slots e i
Finds alike initial slots e (Free i) = Open alike initial slots e i
Finds alike initial slots e Full = Crowded alike slots e

-- the slots from one on, up to another, hold entries with other keys
abbrev pub Others : {E : Type 0} → (E → E → Type 0) → List (Option E) → E → ℕ → ℕ → Type 0
Others {E} alike slots e from to = (m : ℕ) → from ≤ m → m < to → (is_some (slot slots m) ≡ true) × ((x : E) → slot slots m ≡ Some x → alike x e → ⊥)

-- slot i is the first free one, before which no slot holds an entry with the key
pub record Ends {E : Type 0} (alike : E → E → Type 0) (slots : List (Option E)) (e : E) (from to i : ℕ) : Type 0 where
  pub after : from ≤ i
  pub within : i < to
  pub empty : slot slots i ≡ None
  pub others : Others alike slots e from i

-- what a search in these slots alone answers
abbrev pub FindsIn : {E : Type 0} → (E → E → Type 0) → List (Option E) → E → ℕ → ℕ → Option Found → Type 0
FindsIn alike slots e from to None = Others alike slots e from to
FindsIn alike slots e from to (Some (At i)) = Holds alike slots e i
FindsIn alike slots e from to (Some (Free i)) = Ends alike slots e from to i
FindsIn alike slots e from to (Some Full) = ⊥

-- slot i was free and holds e now, every other slot as it was
pub record Placed {E : Type 0} (old new : List (Option E)) (e : E) (i : ℕ) : Type 0 where
  pub free : slot old i ≡ None
  pub here : slot new i ≡ Some e
  pub others : (k : ℕ) → (k ≢ i) → slot new k ≡ slot old k

-- what became of e: none, where there was no room, and else its slot
abbrev pub Interned : {E : Type 0} → (E → E → Type 0) → List (Option E) → List (Option E) → E → Option ℕ → Type 0
Interned alike old new e None = (new ≡ old) × Crowded alike old e
Interned alike old new e (Some i) = Holds alike new e i × ((new ≡ old) ⊎ Placed old new e i)
