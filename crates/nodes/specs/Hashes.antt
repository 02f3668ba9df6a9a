-- The slot at which a search for a node starts. Assumes nothing.
use Rattle.std.specs.Prelude.{ℕ, ◌+◌, ◌*◌, ◌/◌, ◌%◌, List, [], ◌∷◌, Some, None, Option}
use Rattle.nodes.specs.declared.edge.Edge.{Edge}

abbrev weigh : Option ℕ → ℕ
weigh None = 0
weigh (Some w) = (1 + w % 4294967296) * 65536

-- a number that depends on an edge
abbrev pub code : Edge → ℕ
code e = e.child + weigh e.weight

-- a number made of those of the edges: each step keeps the upper half of a product of 64 bits
abbrev pub mixed : ℕ → List Edge → ℕ
mixed h [] = h
mixed h (x ∷ xs) = mixed ((h + code x) * 17380933483125451205 % 18446744073709551616 / 4294967296) xs
