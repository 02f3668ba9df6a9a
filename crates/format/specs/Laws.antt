-- A file has one reading, a rig one file, and every rig a file. Assumes nothing.
use Rattle.std.specs.Prelude.{◌≡◌, ◌≤◌, List, length, replicate, None, Option}
use Rattle.model.specs.Moves.{Move}
use Rattle.model.specs.Contents.{Contents}
use Rattle.format.specs.Bytes.{Prefix, two, pair}
use Rattle.format.specs.Files.{Listing, Shaped, Held, surcharge, entry, bytes, file, listing, entries, placed}

-- two listings with the same bytes are the same
abbrev pub OneReading : Type 0
OneReading = (k l : Listing) → Shaped k → Shaped l → bytes k ≡ bytes l → k ≡ l

-- two rigs with tables as long and the same file hold the same
abbrev pub OneFile : Type 0
OneFile = (c d : Contents) → Held c → Held d → length c.slots ≡ length d.slots → file c ≡ file d → c ≡ d

-- what a rig's file lists is well shaped, and no file is longer than this; so the length always fits two bytes
pub record EveryFile : Type 0 where
  pub shaped : (c : Contents) → Held c → Shaped (listing c)
  pub short : (c : Contents) → Held c → length (file c) ≤ 32274

-- the moves of a table, placed into a vacant one as long, make the table
abbrev pub PlacedBack : Type 0
PlacedBack = (slots : List (Option Move)) → placed (entries 0 slots) (replicate (length slots) None) ≡ slots

-- the parts of a file can be told from what follows them
pub record Prefixes : Type 0 where
  pub of_two : Prefix two
  pub of_pair : Prefix pair
  pub of_surcharge : Prefix surcharge
  pub of_entry : Prefix entry
