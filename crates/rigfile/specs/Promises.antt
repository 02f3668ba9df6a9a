-- Writing and reading together. Assumes nothing.
use Rattle.std.specs.Prelude.{◌≡◌, ℕ, List, length, take, Ok, Result}
use Rattle.model.specs.Contents.{Contents}
use Rattle.format.specs.Files.{file}
use Rattle.format.specs.Reading.{Untaken}
use Rattle.rigfile.specs.Writing.{Written}
use Rattle.rigfile.specs.Reading.{Answers}

-- what a write puts at the front of a buffer is read as the rig that was written, into a table as long
abbrev pub ReadsBack : Contents → Type 0
ReadsBack c = (n : ℕ) (old new : List ℕ) (r : Result Contents Untaken) → Written (file c) (Ok n) old new → Answers (take n new) (length c.slots) r → r ≡ Ok c

-- what is read as a rig is its only file, and a write puts back the same bytes
pub record WritesBack : Type 0 where
  pub only_file : (bytes : List ℕ) (slots : ℕ) (c : Contents) → Answers bytes slots (Ok c) → bytes ≡ file c
  pub same_bytes : (bytes : List ℕ) (slots : ℕ) (c : Contents) (n : ℕ) (old new : List ℕ) → Answers bytes slots (Ok c) → Written (file c) (Ok n) old new → take n new ≡ bytes
