-- Two weights as what they have in common and what is left of each. Assumes nothing.
use Rattle.std.specs.Prelude.{ℕ, ◌+◌, ◌-◌, min, Some}
use Rattle.nodes.specs.declared.edge.Edge.{Edge}
use Rattle.nodes.specs.declared.remembered.Op.{Op}
use Rattle.nodes.specs.declared.remembered.Op.TheVariants.{Cheaper, Sum}
use Rattle.apply.specs.declared.split.TimedEdge.{TimedEdge}
use Rattle.apply.specs.declared.split.Weights.{Weights}

abbrev pub edge_of : TimedEdge → Edge
edge_of e = record { weight = Some e.weight; child = e.child }

abbrev pub split_of : Op → ℕ → ℕ → Weights
split_of Cheaper a b = record { base = min a b; left = a - min a b; right = b - min a b }
split_of Sum a b = record { base = a + b; left = 0; right = 0 }

-- the result where one of the two is never throughout
abbrev pub skipped : Op → Edge → Edge → Edge
skipped Cheaper never other = other
skipped Sum never other = never
