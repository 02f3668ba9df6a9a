-- The key of a remembered result. Assumes nothing.
use Rattle.std.specs.Prelude.{◌≡◌, ℕ, ◌+◌, ◌*◌, ◌%◌, [], ◌∷◌}
use Rattle.nodes.specs.Hashes.{mixed}
use Rattle.nodes.specs.declared.remembered.Op.TheVariants.{Cheaper, Sum}
use Rattle.nodes.specs.declared.remembered.Operation.{Operation}
use Rattle.nodes.specs.declared.remembered.Operation.TheVariants.{Join, Put}
use Rattle.nodes.specs.declared.remembered.Remembered.{Remembered}

abbrev pub SameKey : Remembered → Remembered → Type 0
SameKey x y = x.key ≡ y.key

-- a number that tells operations apart
abbrev pub rank : Operation → ℕ
rank (Join Cheaper) = 0
rank (Join Sum) = 1
rank (Put v d) = 2 + 256 * v + d

-- what is mixed first, at a level
abbrev pub first_of : Operation → ℕ → ℕ
first_of o l = 256 * rank o + l

abbrev pub initial_of : Remembered → ℕ → ℕ
initial_of x n = mixed (first_of x.key.operation x.key.level) (x.key.left ∷ x.key.right ∷ []) % n
