-- What a file gives over a table of 255 move slots. Assumes nothing.
use Rattle.std.specs.Prelude.{◌≡◌, ℕ, List, Err, Result}
use Rattle.model.specs.Limits.{most_slots}
use Rattle.model.specs.Contents.{Contents}
use Rattle.format.specs.Files.{Listing, Shaped, bytes}
use Rattle.format.specs.Reading.{Untaken, taken}
use Rattle.embed.specs.declared.unfiled.Unfiled.{Unfiled}
use Rattle.embed.specs.declared.unfiled.Unfiled.TheVariants.{NoMemory, Refused}

-- what the bytes list is taken as these contents, or refused by open, want or add; where they list nothing, it is 20
pub record Reads (file : List ℕ) (r : Result Contents Untaken) : Type 0 where
  pub listed : (l : Listing) → Shaped l → file ≡ bytes l → r ≡ taken l most_slots
  pub unlisted : ((l : Listing) × Shaped l × (file ≡ bytes l) → ⊥) → r ≡ Err (record { number = 20; byte = 0 })

-- why a file gives no rig
abbrev pub Unread : List ℕ → Unfiled → Type 0
Unread file NoMemory = Unit {0}
Unread file (Refused n b) = Reads file (Err (record { number = n; byte = b }))
