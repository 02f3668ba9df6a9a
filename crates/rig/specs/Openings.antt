-- What an opening answers and leaves. Assumes nothing.
use Rattle.std.specs.Prelude.{◌≡◌, ℕ, List, map, Ok, Err, vec_len, Option, Result, Vec}
use Rattle.std.specs.declared.alloc.Global.{Global}
use Rattle.lists.specs.Shorts.{listed}
use Rattle.model.specs.Scenes.{Shape, Scene}
use Rattle.model.specs.Masks.{all_of}
use Rattle.model.specs.Contents.{Name}
use Rattle.model.specs.Calls.{opens, opened}
use Rattle.rig.specs.declared.devices.Devices.{Devices}
use Rattle.moves.specs.declared.fault.RigFault.{RigFault}
use Rattle.rig.specs.declared.frame.Rig.{Rig}
use Rattle.moves.specs.declared.entry.Move.{Move}
use Rattle.rig.specs.declared.unopened.Unopened.{Unopened}
use Rattle.moves.specs.Faults.{number}
use Rattle.rig.specs.Rigs.{contents}

-- devices as they are handed in, each setting of them wanted
pub record AsGiven (ns : Shape) (names : List Name) (s : Scene) (d : Devices) : Type 0 where
  pub settings : listed d.settings ≡ ns
  pub names_given : listed d.names ≡ names
  pub scene : listed d.scene ≡ s
  pub masks : listed d.masks ≡ map all_of ns

abbrev pub Stood : Shape → List Name → Scene → ℕ → Result Devices RigFault → Type 0
Stood ns names s slots (Ok d) = (opens ns names s slots ≡ Ok (tt {0})) × AsGiven ns names s d
Stood ns names s slots (Err f) = opens ns names s slots ≡ Err (number f)

-- an accepted opening leaves the contents that its definition gives; a refused one hands the table back as it was
abbrev pub Opened : Shape → List Name → Scene → Vec (Option Move) Global → Result Rig Unopened → Type 0
Opened ns names s slots (Ok rig) = (opens ns names s (vec_len slots) ≡ Ok (tt {0})) × (contents rig ≡ opened ns names s (vec_len slots))
Opened ns names s slots (Err e) = (opens ns names s (vec_len slots) ≡ Err (number e.fault)) × (e.slots ≡ slots)
