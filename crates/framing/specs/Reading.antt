-- Items taken off the front of bytes. Assumes nothing.
use Rattle.std.specs.Prelude.{◌≡◌, ℕ, ◌+◌, ◌<◌, List, [], ◌∷◌, ◌++◌, length, Some, None, Option, ◌≢◌}
use Rattle.format.specs.Bytes.{two}
use Rattle.format.specs.Files.{Entry, entry, Rising}
use Rattle.framing.specs.declared.heads.Toll.{Toll}
use Rattle.framing.specs.declared.heads.Head.{Head}
use Rattle.framing.specs.declared.heads.Header.{Header}

abbrev pub Any : {X : Type 0} → X → Type 0
Any x = Unit {0}

-- no x of which P holds stands at the front
abbrev pub Lacks : {X : Type 0} → (X → Type 0) → (X → List ℕ) → List ℕ → Type 0
Lacks {X} P f before = (x : X) (rest : List ℕ) → P x → before ≢ f x ++ rest

-- an item was taken off the front, or none stands there
abbrev pub Takes : {X : Type 0} → (X → List ℕ) → Option X → List ℕ → List ℕ → Type 0
Takes f (Some x) before after = before ≡ f x ++ after
Takes f None before after = Lacks Any f before

-- some x of which P holds was passed over, or none such stands there
abbrev pub Passes : {X : Type 0} → (X → Type 0) → (X → List ℕ) → Option (Unit {0}) → List ℕ → List ℕ → Type 0
Passes {X} P f (Some _) before after = (x : X) × (P x) × (before ≡ f x ++ after)
Passes P f None before after = Lacks P f before

-- so many bytes were passed over, or there are fewer
abbrev pub Skips : ℕ → Option (Unit {0}) → List ℕ → List ℕ → Type 0
Skips n (Some _) before after = (xs : List ℕ) × (length xs ≡ n) × (before ≡ xs ++ after)
Skips n None before after = length before < n

-- some move of that number was passed over, or no move stands there
abbrev pub Numbered : Option ℕ → List ℕ → List ℕ → Type 0
Numbered (Some n) before after = (e : Entry) × (e.number ≡ n) × (before ≡ entry e ++ after)
Numbered None before after = Lacks Any entry before

-- what stands before the lists of a surcharge and of a move, and the header of a file

abbrev pub toll : Toll → List ℕ
toll t = t.count ∷ two t.extra

abbrev pub head : Head → List ℕ
head h = h.number ∷ h.conditions ∷ h.effects ∷ h.surcharges ∷ two h.base

abbrev pub opening : Header → List ℕ
opening h = h.version ∷ h.devices ∷ h.moves ∷ h.zero ∷ (two h.first ++ (two h.second ++ (two h.third ++ two h.total)))

-- so many moves, by rising number
abbrev pub Moves : ℕ → List Entry → Type 0
Moves count es = (length es ≡ count) × Rising 0 es

-- that number may come behind the last one
abbrev pub Follows : Option ℕ → ℕ → Type 0
Follows None n = Unit {0}
Follows (Some last) n = last < n

-- the least number that may come after the moves
abbrev pub after : ℕ → List Entry → ℕ
after low [] = low
after low (e ∷ es) = after (e.number + 1) es
