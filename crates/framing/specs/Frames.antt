-- Bytes that frame a listing. Assumes nothing.
use Rattle.std.specs.Prelude.{◌≡◌, ℕ, ◌+◌, ◌*◌, List}
use Rattle.format.specs.Files.{Listing, Shaped, bytes}
use Rattle.framing.specs.declared.heads.Header.{Header}

-- the header of a file in so many bytes: the parts follow one another without gaps
pub record Plain (h : Header) (l : ℕ) : Type 0 where
  pub version : h.version ≡ 1
  pub zero : h.zero ≡ 0
  pub first : h.first ≡ 12
  pub second : h.second ≡ 12 + 9 * h.devices
  pub third : h.third ≡ 12 + 11 * h.devices
  pub total : h.total ≡ l

-- they are the file of something listed
abbrev pub Framed : List ℕ → Type 0
Framed bs = (l : Listing) × Shaped l × (bs ≡ bytes l)
