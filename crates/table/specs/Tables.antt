-- Open-addressed slots: a ring of slots, each free or with one entry. Assumes nothing.
use Rattle.std.specs.Prelude.{◌≡◌, ℕ, ◌+◌, ◌-◌, ◌<◌, true, cond, List, length, is_some, Some, None, Option, nat_le, slice_index_or}

-- how many steps round a ring of n slots lead from h to k
abbrev pub steps : ℕ → ℕ → ℕ → ℕ
steps n h k = cond (nat_le h k) (k - h) (n + k - h)

-- what slot k holds
abbrev pub slot : {E : Type 0} → List (Option E) → ℕ → Option E
slot slots k = slice_index_or slots k None

-- every slot that is nearer to h than k holds an entry
abbrev pub Reached : {E : Type 0} → List (Option E) → ℕ → ℕ → Type 0
Reached slots h k = (m : ℕ) → m < length slots → steps (length slots) h m < steps (length slots) h k → is_some (slot slots m) ≡ true

-- every entry is reached from the slot at which a search for it starts
abbrev pub Probed : {E : Type 0} → (E → ℕ → ℕ) → List (Option E) → Type 0
Probed {E} initial slots = (k : ℕ) (x : E) → k < length slots → slot slots k ≡ Some x → Reached slots (initial x (length slots)) k

-- no slot holds an entry with the key of e
abbrev pub Absent : {E : Type 0} → (E → E → Type 0) → List (Option E) → E → Type 0
Absent {E} alike slots e = (k : ℕ) (x : E) → k < length slots → slot slots k ≡ Some x → alike x e → ⊥

-- no two slots hold entries with the same key
abbrev pub Apart : {E : Type 0} → (E → E → Type 0) → List (Option E) → Type 0
Apart {E} alike slots = (i j : ℕ) (x y : E) → i < length slots → j < length slots → slot slots i ≡ Some x → slot slots j ≡ Some y → alike x y → i ≡ j

-- what every table keeps
pub record Table {E : Type 0} (alike : E → E → Type 0) (initial : E → ℕ → ℕ) (slots : List (Option E)) : Type 0 where
  pub probed : Probed initial slots
  pub apart : Apart alike slots

-- every entry of the one is in the same slot of the other
abbrev pub Kept : {E : Type 0} → List (Option E) → List (Option E) → Type 0
Kept {E} old new = (k : ℕ) (x : E) → slot old k ≡ Some x → slot new k ≡ Some x

-- every slot is free
abbrev pub Empty : {E : Type 0} → List (Option E) → Type 0
Empty slots = (k : ℕ) → slot slots k ≡ None

-- no slot is free
abbrev pub Occupied : {E : Type 0} → List (Option E) → Type 0
Occupied slots = (k : ℕ) → k < length slots → is_some (slot slots k) ≡ true
