-- What a read answers and leaves. Assumes nothing.
use Rattle.std.specs.Prelude.{◌≡◌, ℕ, List, replicate, None, Ok, Err, vec_items, vec_len, Option, Result, Vec}
use Rattle.std.specs.declared.alloc.Global.{Global}
use Rattle.model.specs.Contents.{Contents}
use Rattle.moves.specs.declared.entry.Move.{Move}
use Rattle.moves.specs.Faults.{number}
use Rattle.rig.specs.declared.frame.Rig.{Rig}
use Rattle.rig.specs.Rigs.{contents}
use Rattle.format.specs.Files as format
use Rattle.format.specs.Reading.{Untaken, taken}
use Rattle.framing.specs.Frames.{Framed}
use Rattle.rigfile.specs.declared.unread.ReadFault.{ReadFault}
use Rattle.rigfile.specs.declared.unread.ReadFault.TheVariants.{BadFrame, NotOpened, NotWanted, NotAdded}
use Rattle.rigfile.specs.declared.unread.Unread.{Unread}

-- the number of a refusal, and the byte where the move begins that add refused, or 0
abbrev pub untaken : ReadFault → Untaken
untaken BadFrame = record { number = 20; byte = 0 }
untaken (NotOpened f) = record { number = number f; byte = 0 }
untaken (NotWanted f) = record { number = number f; byte = 0 }
untaken (NotAdded f byte) = record { number = number f; byte = byte }

-- the contents of the rig, or the number and the byte of the refusal
abbrev pub read_as : Result Rig Unread → Result Contents Untaken
read_as (Ok rig) = Ok (contents rig)
read_as (Err e) = Err (untaken e.fault)

-- what the bytes list is taken by open, want and add into a table of so many slots; where they list nothing, it is 20
pub record Answers (bytes : List ℕ) (slots : ℕ) (r : Result Contents Untaken) : Type 0 where
  pub listed : (l : format.Listing) → format.Shaped l → bytes ≡ format.bytes l → r ≡ taken l slots
  pub unframed : (Framed bytes → ⊥) → r ≡ Err (record { number = 20; byte = 0 })

-- a refused read hands the table back, every slot vacant
abbrev pub Vacated : Vec (Option Move) Global → Result Rig Unread → Type 0
Vacated slots (Ok rig) = Unit {0}
Vacated slots (Err e) = vec_items e.slots ≡ replicate (vec_len slots) None
