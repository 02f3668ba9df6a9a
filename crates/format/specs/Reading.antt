-- Taking a listing into a table of slots by open, want and add: the first refusal stands. Assumes nothing.
use Rattle.std.specs.Prelude.{◌≡◌, ℕ, ◌+◌, ◌*◌, List, [], ◌∷◌, length, Some, Ok, Err, Result}
use Rattle.model.specs.Contents.{Contents, with_slot, with_masks}
use Rattle.model.specs.Calls.{opens, opened, wants, adds}
use Rattle.format.specs.Files.{Entry, Listing, Shaped, Held, entry, listing}

-- the number of the refusal, and the byte where the move begins that add refused, or 0
pub record Untaken : Type 0 where
  pub number : ℕ
  pub byte : ℕ

-- the next answer, unless the call was refused
abbrev pub unless_refused : {T : Type 0} → Result T ℕ → ℕ → Result Contents Untaken → Result Contents Untaken
unless_refused (Ok x) byte next = next
unless_refused (Err n) byte next = Err (record { number = n; byte = byte })

-- each move is added in the slot of its number; the first begins at that byte
abbrev pub adding : Contents → ℕ → List Entry → Result Contents Untaken
adding c byte [] = Ok c
adding c byte (e ∷ es) = unless_refused (adds c e.number e.move) byte (adding (with_slot c e.number (Some e.move)) (byte + length (entry e)) es)

abbrev pub taken : Listing → ℕ → Result Contents Untaken
taken l slots =
    unless_refused (opens l.settings l.names l.scene slots) 0
    (unless_refused (wants (opened l.settings l.names l.scene slots) l.masks) 0
    (adding (with_masks (opened l.settings l.names l.scene slots) l.masks) (12 + 11 * length l.settings) l.moves))

-- what a rig's file lists is taken as that rig into a table as long
abbrev pub TakenBack : Type 0
TakenBack = (c : Contents) → Held c → taken (listing c) (length c.slots) ≡ Ok c

-- and what is taken lists what was read
abbrev pub ListsAsTaken : Type 0
ListsAsTaken = (l : Listing) (slots : ℕ) (c : Contents) → Shaped l → taken l slots ≡ Ok c → listing c ≡ l
