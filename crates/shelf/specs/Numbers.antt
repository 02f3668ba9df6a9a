-- What a number of a call names, and why it names nothing. Assumes nothing.
use Rattle.std.specs.Prelude.{◌≡◌, ℕ, ◌<◌, ◌≤◌, ◌⊎◌, Bool, true, false, List, slice_index_or}
use Rattle.model.specs.Limits.{peg_count}
use Rattle.shelf.specs.declared.fault.ShelfFault.{ShelfFault}
use Rattle.shelf.specs.declared.fault.ShelfFault.TheVariants.{PegHigh, PegBare}

-- v is what the number names, of so many
abbrev pub Names : ℕ → ℕ → ℕ → Type 0
Names many number v = (v ≡ number) × (v < many)

-- the number is too high, of so many
abbrev pub High : ShelfFault → ℕ → ℕ → ShelfFault → Type 0
High fault many number f = (f ≡ fault) × (many ≤ number)

-- a chart hangs on p, the peg of the number
abbrev pub Hangs : List Bool → ℕ → ℕ → Type 0
Hangs hung number p = (p ≡ number) × (slice_index_or hung p false ≡ true)

-- why a peg has no chart to be read
abbrev pub NoChart : List Bool → ℕ → ShelfFault → Type 0
NoChart hung number f =
    High PegHigh peg_count number f
    ⊎ ((f ≡ PegBare) × (number < peg_count) × (slice_index_or hung number false ≡ false))

-- why two pegs have no charts to be read
abbrev pub NoCharts : List Bool → ℕ → ℕ → ShelfFault → Type 0
NoCharts hung l r f =
    ((f ≡ PegHigh) × ((peg_count ≤ l) ⊎ (peg_count ≤ r)))
    ⊎ ((f ≡ PegBare) × (l < peg_count) × (r < peg_count) × ((slice_index_or hung l false ≡ false) ⊎ (slice_index_or hung r false ≡ false)))
