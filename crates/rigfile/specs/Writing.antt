-- Bytes written into a buffer, and what a write answers and leaves. Assumes nothing.
use Rattle.std.specs.Prelude.{◌≡◌, ℕ, ◌+◌, ◌<◌, ◌≤◌, List, [], ◌∷◌, ◌++◌, map, length, take, drop, Ok, Err, Option, Result}
use Rattle.std.specs.List.{flat_map}
use Rattle.moves.specs.declared.pair.Pair.{Pair}
use Rattle.moves.specs.declared.entry.Surcharge.{Surcharge}
use Rattle.moves.specs.declared.entry.Move.{Move}
use Rattle.moves.specs.Views.{pair_of, surcharge_of, slot_of}
use Rattle.format.specs.Bytes.{pair}
use Rattle.format.specs.Files.{surcharge, entry, entries}
use Rattle.rigfile.specs.declared.fault.WriteFault.{WriteFault}
use Rattle.rigfile.specs.declared.writer.Writer.{Writer}

-- xs stands from `at` on, and the rest is kept
abbrev pub Writes : List ℕ → ℕ → List ℕ → List ℕ → Type 0
Writes old at xs new = new ≡ take at old ++ (xs ++ drop (at + length xs) old)

-- there is room for xs where the writer stands
abbrev pub Room : Writer → List ℕ → Type 0
Room w xs = w.at + length xs ≤ length w.buffer.now

-- xs was put where the writer stood, and the rest of its buffer is kept
pub record Puts (old : Writer) (xs : List ℕ) (new : Writer) : Type 0 where
  pub same_reference : new.buffer.ghost_name ≡ old.buffer.ghost_name
  pub next : new.at ≡ old.at + length xs
  pub done : Writes old.buffer.now old.at xs new.buffer.now

abbrev pub pair_bytes : Pair → List ℕ
pair_bytes p = pair (pair_of p)

abbrev pub surcharge_bytes : Surcharge → List ℕ
surcharge_bytes x = surcharge (surcharge_of x)

-- what a slot gives of the file: nothing, or the move with the slot's number
abbrev pub slot_bytes : ℕ → Option Move → List ℕ
slot_bytes n o = flat_map entry (entries n (slot_of o ∷ []))

abbrev pub slots_bytes : ℕ → List (Option Move) → List ℕ
slots_bytes n slots = flat_map entry (entries n (map slot_of slots))

-- the file stands at the front and the rest is kept; or it is longer than the buffer, which is as it was
abbrev pub Written : List ℕ → Result ℕ WriteFault → List ℕ → List ℕ → Type 0
Written file (Ok n) old new = (n ≡ length file) × (new ≡ file ++ drop (length file) old)
Written file (Err f) old new = (f.needed ≡ length file) × (length old < length file) × (new ≡ old)
