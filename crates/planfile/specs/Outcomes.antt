-- What the program prints on standard output, and the status that it ends with. Assumes nothing.
use Rattle.std.specs.Prelude.{ℕ, List, [], Some, None, Ok, Err, Option, Result}
use Rattle.report.specs.Lines.{refused_line}
use Rattle.report.specs.Texts.{ended, told_text}
use Rattle.report.specs.declared.told.Told.{Told}
use Rattle.planfile.specs.declared.failure.Failure.{Failure}
use Rattle.planfile.specs.Failures.{number}

-- a refusal by its number; what is no refusal prints nothing
abbrev pub refusal_text : Option ℕ → List ℕ
refusal_text (Some n) = ended (refused_line n)
refusal_text None = []

abbrev pub outcome_text : Result Told Failure → List ℕ
outcome_text (Ok told) = told_text told
outcome_text (Err failure) = refusal_text (number failure)

-- 0 where a plan was told, 1 where it was not
abbrev pub status : Result Told Failure → ℕ
status (Ok told) = 0
status (Err failure) = 1
