-- What is printed of a plan. Assumes nothing.
use Rattle.std.specs.Prelude.{ℕ, List, ◌++◌, codes, vec_items, vec_len}
use Rattle.std.specs.List.{flat_map}
use Rattle.report.specs.declared.step.Step.{Step}
use Rattle.report.specs.declared.told.Told.{Told}
use Rattle.report.specs.declared.told.Told.TheVariants.{Way, NoWay}
use Rattle.report.specs.Lines.{step_line, way_line, no_way_line}

-- a line with its end
abbrev pub ended : List ℕ → List ℕ
ended line = line ++ codes "\n"

-- the line of each move
abbrev pub lines : List Step → List ℕ
lines steps = flat_map (λ x. ended (step_line x.number x.time)) steps

abbrev pub told_text : Told → List ℕ
told_text (Way steps time rounds) = ended (way_line (vec_len steps) time rounds) ++ lines (vec_items steps)
told_text (NoWay rounds) = ended (no_way_line rounds)
