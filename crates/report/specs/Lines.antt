-- What is printed, line by line. Assumes nothing.
use Rattle.std.specs.Prelude.{ℕ, List, ◌++◌, codes, decimal}

-- a move with its time
abbrev pub step_line : ℕ → ℕ → List ℕ
step_line number time = decimal number ++ (codes " " ++ decimal time)

abbrev pub way_line : ℕ → ℕ → ℕ → List ℕ
way_line moves time rounds = codes "way " ++ (decimal moves ++ (codes " moves " ++ (decimal time ++ (codes " tenths " ++ (decimal rounds ++ codes " rounds")))))

abbrev pub no_way_line : ℕ → List ℕ
no_way_line rounds = codes "no way " ++ (decimal rounds ++ codes " rounds")

abbrev pub refused_line : ℕ → List ℕ
refused_line number = codes "refused " ++ decimal number
