-- A mix is a fold over the edges.
use Rattle.std.proofs.Common.{◌≡◌, ℕ, ◌+◌, ◌*◌, ◌/◌, ◌%◌, List, [], ◌∷◌, refl}
use Rattle.std.specs.List.{fold}
use Rattle.nodes.specs.declared.edge.Edge.{Edge}
use Rattle.nodes.specs.Hashes.{code, mixed}

-- one edge more
abbrev pub step : ℕ → Edge → ℕ
step h x = (h + code x) * 17380933483125451205 % 18446744073709551616 / 4294967296

pub fold_is_mixed : (h : ℕ) (xs : List Edge) → fold step h xs ≡ mixed h xs
fold_is_mixed h [] = refl
fold_is_mixed h (x ∷ xs) = fold_is_mixed (step h x) xs
