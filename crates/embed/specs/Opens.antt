-- A rig out of a file, and a flat shelf for it. Assumes nothing.
use Rattle.std.specs.Prelude.{◌≡◌, ℕ, List, Ok, Err, Result}
use Rattle.model.specs.Scenes.{Shape}
use Rattle.model.specs.Shelves.{flat_opened}
use Rattle.rig.specs.declared.frame.Rig.{Rig}
use Rattle.rig.specs.Rigs.{contents}
use Rattle.flat.specs.declared.store.FlatShelf.{FlatShelf}
use Rattle.flat.specs.Means.{means}
use Rattle.embed.specs.declared.unfiled.Unfiled.{Unfiled}
use Rattle.embed.specs.declared.unfiled.Unfiled.TheVariants.{NoMemory, Refused}
use Rattle.embed.specs.Reads.{Reads, Unread}

abbrev pub Filed : List ℕ → Result Rig Unfiled → Type 0
Filed file (Ok rig) = Reads file (Ok (contents rig))
Filed file (Err f) = Unread file f

-- a flat shelf of a shape, or none for want of memory
abbrev pub Celled : Shape → Result FlatShelf Unfiled → Type 0
Celled ns (Ok s) = means s ≡ flat_opened ns
Celled ns (Err NoMemory) = Unit {0}
Celled ns (Err (Refused n b)) = ⊥
