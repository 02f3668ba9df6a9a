-- The first repeated entry of a list, by a test of sameness. Assumes nothing.
use Rattle.std.specs.Prelude.{◌≡◌, ℕ, ◌<◌, Bool, true, false, List, [], ◌∷◌, length, take, slice_index_or}
use Rattle.model.specs.Lists.{some}

-- the entry at j is the same as the one at k
abbrev pub Alike : {T : Type 0} → (T → T → Bool) → List T → ℕ → ℕ → Type 0
Alike {T} same xs j k = (d : T) → same (slice_index_or xs j d) (slice_index_or xs k d) ≡ true

-- none of the first n entries is the same as the one at k
abbrev pub New : {T : Type 0} → (T → T → Bool) → List T → ℕ → ℕ → Type 0
New same xs n k = (j : ℕ) → j < n → Alike same xs j k → ⊥

-- none of the first n entries stood earlier
abbrev pub Apart : {T : Type 0} → (T → T → Bool) → List T → ℕ → Type 0
Apart same xs n = (k : ℕ) → k < n → New same xs k k

-- i is the first place whose entry stood earlier
abbrev pub Repeated : {T : Type 0} → (T → T → Bool) → List T → ℕ → Type 0
Repeated same xs i = (i < length xs) × Apart same xs i × ((j : ℕ) × (j < i) × Alike same xs j i)

-- whether an entry before the one at i is the same as it, as a test
abbrev pub has_stood : {T : Type 0} → (T → T → Bool) → List T → ℕ → Bool
has_stood same [] i = false
has_stood same (x ∷ xs) i = some (λ y. same y (slice_index_or (x ∷ xs) i x)) (take i (x ∷ xs))
