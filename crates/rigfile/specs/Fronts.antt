-- What stands before the moves of a file. Assumes nothing.
use Rattle.std.specs.Prelude.{◌≡◌, ℕ, ◌+◌, ◌*◌, ◌<◌, List, ◌++◌, length, Some, None, Option, Result}
use Rattle.std.specs.List.{flat_map, AllByRecursion}
use Rattle.lists.specs.Shorts.{listed}
use Rattle.model.specs.Contents.{Contents, with_masks}
use Rattle.model.specs.Calls.{wants}
use Rattle.format.specs.Files as format
use Rattle.format.specs.Reading.{Untaken, unless_refused, adding, taken}
use Rattle.rigfile.specs.declared.front.Devices.{Devices}
use Rattle.rigfile.specs.declared.front.Front.{Front}
use Rattle.rigfile.specs.declared.unread.ReadFault.{ReadFault}
use Rattle.rigfile.specs.Adding.{ended}

-- so many devices stood at the front
pub record TakenDevices (count : ℕ) (d : Devices) (before after : List ℕ) : Type 0 where
  pub many : length (listed d.settings) ≡ count
  pub named : length (listed d.names) ≡ count
  pub eight : AllByRecursion format.Eight (listed d.names)
  pub stood : before ≡ format.devices (listed d.settings) (listed d.names) ++ after

-- so many devices were taken, or there are too few bytes
abbrev pub Devised : ℕ → Option Devices → List ℕ → List ℕ → Type 0
Devised count (Some d) before after = TakenDevices count d before after
Devised count None before after = length before < 9 * count

-- the parts are those of a listing
pub record Parts (f : Front) (l : format.Listing) : Type 0 where
  pub settings : listed f.devices.settings ≡ l.settings
  pub names : listed f.devices.names ≡ l.names
  pub scene : f.scene.now ≡ l.scene
  pub masks : f.masks.now ≡ l.masks
  pub count : length l.moves ≡ f.count
  pub moves : f.moves.now ≡ flat_map format.entry l.moves
  pub total : f.total ≡ 12 + 11 * length l.settings + length f.moves.now

-- the bytes are the file of a listing with these parts
pub record Lists (bytes : List ℕ) (f : Front) : Type 0 where
  pub listing : format.Listing
  pub shaped : format.Shaped listing
  pub made : bytes ≡ format.bytes listing
  pub parts : Parts f listing

-- masks and moves were taken as want and add take them
abbrev pub Filled : Front → Contents → Result (Unit {0}) ReadFault → Contents → Type 0
Filled f c r d =
    (l : format.Listing) → Parts f l → ended r d ≡ unless_refused (wants c l.masks) 0 (adding (with_masks c l.masks) (12 + 11 * length l.settings) l.moves)

-- everything was taken as open, want and add take it
abbrev pub Opened : Front → ℕ → Result Contents Untaken → Type 0
Opened f slots r = (l : format.Listing) → Parts f l → r ≡ taken l slots
