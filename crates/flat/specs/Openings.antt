-- How a flat shelf opens: a refusal hands the memory back as it was. Assumes nothing.
use Rattle.std.specs.Prelude.{◌≡◌, ℕ, Ok, Err, vec_len, Result, Vec}
use Rattle.std.specs.declared.alloc.Global.{Global}
use Rattle.model.specs.Charts.{Time}
use Rattle.model.specs.Scenes.{Shape}
use Rattle.model.specs.Shelves.{flat_opens, flat_opened}
use Rattle.flat.specs.declared.store.FlatShelf.{FlatShelf}
use Rattle.flat.specs.declared.store.opening.OpenFault.{OpenFault}
use Rattle.flat.specs.declared.store.opening.OpenFault.TheVariants.{CountsOff, MemoryShort}
use Rattle.flat.specs.declared.store.opening.Unopened.{Unopened}
use Rattle.flat.specs.Means.{means}

abbrev pub number : OpenFault → ℕ
number CountsOff = 1
number MemoryShort = 3

abbrev pub Opened : Shape → Vec Time Global → Result FlatShelf Unopened → Type 0
Opened ns cells (Ok s) = (flat_opens ns (vec_len cells) ≡ Ok tt) × (means s ≡ flat_opened ns)
Opened ns cells (Err u) = (flat_opens ns (vec_len cells) ≡ Err (number u.fault)) × (u.cells ≡ cells)
