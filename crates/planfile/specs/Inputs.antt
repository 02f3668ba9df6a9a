-- An input read whole. Assumes nothing.
use Rattle.std.specs.Prelude.{◌≡◌, ℕ, ◌<◌, ◌≤◌, List, length, ⊤, vec_items, Ok, Err, Result, Vec}
use Rattle.std.specs.declared.alloc.Global.{Global}
use Rattle.planfile.specs.declared.failure.Failure.{Failure}
use Rattle.planfile.specs.declared.failure.Failure.TheVariants.{Input, InputLong, Unread, Unopened, NoMemory, Unplanned}

-- the most bytes that are read
abbrev pub most_input : ℕ
most_input = 65535

-- an input of the bytes xs is read whole, or is too long, or could not be read
abbrev pub Fed : List ℕ → Result (Vec ℕ Global) Failure → Type 0
Fed xs (Ok bytes) = (vec_items bytes ≡ xs) × (length xs ≤ most_input)
Fed xs (Err InputLong) = most_input < length xs
Fed xs (Err (Input error)) = ⊤
Fed xs (Err NoMemory) = ⊥
Fed xs (Err (Unread fault)) = ⊥
Fed xs (Err (Unopened fault)) = ⊥
Fed xs (Err (Unplanned fault)) = ⊥
