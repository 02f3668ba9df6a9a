-- What a loop writes into cells, and that it keeps all others. Assumes nothing.
use Rattle.std.specs.Prelude.{◌≡◌, ℕ, ◌+◌, ◌*◌, ◌<◌, ◌≤◌, ◌⊎◌, List, None, slice_index_or}
use Rattle.model.specs.Charts.{Time}

-- a place outside n cells from base on
abbrev pub Outside : ℕ → ℕ → ℕ → Type 0
Outside n base k = (k < base) ⊎ (base + n ≤ k)

-- two ranges of n cells are one, or have no cell in common
abbrev pub Apart : ℕ → ℕ → ℕ → Type 0
Apart n a b = (a ≡ b) ⊎ ((a + n ≤ b) ⊎ (b + n ≤ a))

-- n cells from base on have the entries given
pub record Written (n base : ℕ) (f : ℕ → Time) (old new : List Time) : Type 0 where
  pub inside : (k : ℕ) → k < n → slice_index_or new (base + k) None ≡ f k
  pub outside : (k : ℕ) → Outside n base k → slice_index_or new k None ≡ slice_index_or old k None

-- n runs of w cells each
pub record Runs (n w base : ℕ) (f : ℕ → ℕ → Time) (old new : List Time) : Type 0 where
  pub inside : (d r : ℕ) → d < n → r < w → slice_index_or new (base + (d * w + r)) None ≡ f d r
  pub outside : (k : ℕ) → Outside (n * w) base k → slice_index_or new k None ≡ slice_index_or old k None

-- m blocks of n runs of w cells each
pub record Blocks (m n w base : ℕ) (f : ℕ → ℕ → ℕ → Time) (old new : List Time) : Type 0 where
  pub inside : (b d r : ℕ) → b < m → d < n → r < w → slice_index_or new (base + (b * (n * w) + (d * w + r))) None ≡ f b d r
  pub outside : (k : ℕ) → Outside (m * (n * w)) base k → slice_index_or new k None ≡ slice_index_or old k None

-- a run to be copied to each run of a block is one of them, or lies outside the block
abbrev pub Source : ℕ → ℕ → ℕ → ℕ → Type 0
Source n w to from = ((d : ℕ) × (d < n) × (from ≡ to + d * w)) ⊎ ((from + w ≤ to) ⊎ (to + n * w ≤ from))
