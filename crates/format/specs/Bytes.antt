-- Numbers, pairs and lists as bytes. Assumes nothing.
use Rattle.std.specs.Prelude.{◌≡◌, ℕ, ◌/◌, ◌%◌, List, [], ◌∷◌, ◌++◌}
use Rattle.model.specs.Moves.{Pair}

abbrev pub one : ℕ → List ℕ
one n = n ∷ []

-- a number of two bytes, the low byte first
abbrev pub two : ℕ → List ℕ
two n = n % 256 ∷ n / 256 ∷ []

abbrev pub pair : Pair → List ℕ
pair p = p.device ∷ p.setting ∷ []

-- what f writes can be told from what follows it, and x from what f wrote
abbrev pub Prefix : {X : Type 0} → (X → List ℕ) → Type 0
Prefix {X} f = (x y : X) (r s : List ℕ) → f x ++ r ≡ f y ++ s → (x ≡ y) × (r ≡ s)
