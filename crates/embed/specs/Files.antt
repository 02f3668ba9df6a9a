-- The file of a rig that comes in a file, as it is or after a run. Assumes nothing.
use Rattle.std.specs.Prelude.{◌≡◌, ℕ, ◌<◌, ◌≤◌, ◌^◌, List, [], length, take, slice_index, Ok, Err, Result}
use Rattle.model.specs.Contents.{Contents}
use Rattle.model.specs.Calls.{performs}
use Rattle.theory.specs.Performing.{Performs}
use Rattle.moves.specs.Faults.{number}
use Rattle.format.specs.Files.{file as file_of}
use Rattle.rigfile.specs.Writing.{Written}
use Rattle.embed.specs.declared.ran.Ran.{Ran as Ended}
use Rattle.embed.specs.declared.unperformed.Unperformed.{Unperformed}
use Rattle.embed.specs.declared.unperformed.Unperformed.TheVariants.{NoRig, NoRun, Short}
use Rattle.embed.specs.declared.unrun.Unrun.{Unrun}
use Rattle.embed.specs.declared.unrun.Unrun.TheVariants.{TooLong, Refused}
use Rattle.embed.specs.Reads.{Reads, Unread}

-- each move is performed, or one is refused where those before it have led; a run is shorter than 2 ^ 32 moves
abbrev pub Ran : Contents → List ℕ → Result ℕ Unrun → Contents → Type 0
Ran c run (Ok t) d = Performs c run t d
Ran c run (Err TooLong) d = (2 ^ 32 ≤ length run) × (d ≡ c)
Ran c run (Err (Refused f k)) d = (k < length run) × ((t : ℕ) × Performs c (take k run) t d) × (performs d (slice_index run k) ≡ Err (number f))

-- the file of what the run leaves of the rig in the file stands at the buffer's front; else the buffer is as it was
abbrev pub Replayed : List ℕ → List ℕ → List ℕ → Result Ended Unperformed → List ℕ → Type 0
Replayed file run old (Ok r) new =
    (c : Contents) × Reads file (Ok c) × (d : Contents) × Ran c run (Ok r.time) d × Written (file_of d) (Ok r.length) old new
Replayed file run old (Err (NoRig f)) new = Unread file f × (new ≡ old)
Replayed file run old (Err (NoRun f)) new = (c : Contents) × Reads file (Ok c) × ((d : Contents) × Ran c run (Err f) d) × (new ≡ old)
Replayed file run old (Err (Short f)) new =
    (c : Contents) × Reads file (Ok c) × (d : Contents) × (t : ℕ) × Ran c run (Ok t) d × Written (file_of d) (Err f) old new

-- the same without a run
abbrev pub Rewritten : List ℕ → List ℕ → Result Ended Unperformed → List ℕ → Type 0
Rewritten file old r new = Replayed file [] old r new
