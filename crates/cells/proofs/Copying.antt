-- A run copied to each of some runs, a first block to the others of its row, and a row put at a setting. Assumes nothing.
use Rattle.std.proofs.Common.{◌≡◌, ℕ, zero, suc, ◌+◌, ◌-◌, ◌*◌, ◌<◌, ◌≤◌, List, length, get_or, None, refl, ap, ◌∙◌, inl, inr, ⊎_elim, suc-mul, arith}
use borrow.Rule.Slice.PartMut.{put_mid}
use Rattle.std.proofs.lemmas.Bool.{cases_lt}
use Rattle.model.specs.Charts.{Time}
use Rattle.cells.specs.Writes.{Outside, Apart, Written, Runs, Blocks, Source}
use Rattle.cells.proofs.Writing.{next_row, rows_up, one_row_more, in_block, written_part}

-- what is copied in a turn is as it was
pub source_kept : (n w to from x : ℕ) (old now : List Time) → x < n → Source n w to from → Runs x w to (λ _ r. get_or old (from + r) None) old now → (r : ℕ) → r < w → get_or now (from + r) None ≡ get_or old (from + r) None
source_kept n w to from x old now h (inl (d, low, e)) runs r l =
    let spot : from + r ≡ to + (d * w + r) = omega arith in
    ⊎_elim
    (λ lt. ap (λ k. get_or now k None) spot ∙ runs.inside d r lt l)
    (λ ge. runs.outside (from + r) (inr (omega (arith, rows_up x d w ge))))
    (cases_lt d x)
source_kept n w to from x old now h (inr side) runs r l =
    runs.outside (from + r) (⊎_elim (λ before. inl (omega arith)) (λ after. inr (omega (arith, next_row x n w h))) side)

-- a block's source run, in a row that is the target or apart from it
module _ (m n w to from d b : ℕ) (low : d < n) (h : b < m) (apart : Apart (m * (n * w)) from to) where
  pub block_source : Source n w (to + b * (n * w)) (from + (b * (n * w) + d * w))
  block_source =
      ⊎_elim
      (λ e. inl (d, low, omega arith))
      (⊎_elim
      (λ before. inr (inl (omega (arith, next_row b m (n * w) h, next_row d n w low))))
      (λ after. inr (inr (omega (arith, next_row b m (n * w) h)))))
      apart

  -- what is copied to a block is as it was
  pub block_kept : (f : ℕ → ℕ → ℕ → Time) (old now : List Time) → Blocks b n w to f old now → (r : ℕ) → r < w → get_or now (from + (b * (n * w) + d * w) + r) None ≡ get_or old (from + (b * (n * w) + (d * w + r))) None
  block_kept f old now blocks r l =
      let spot : from + (b * (n * w) + d * w) + r ≡ from + (b * (n * w) + (d * w + r)) = omega arith in
      let side : Outside (b * (n * w)) to (from + (b * (n * w) + (d * w + r))) =
      ⊎_elim
      (λ e. inr (omega arith))
      (⊎_elim
      (λ before. inl (omega (arith, next_row b m (n * w) h, next_row d n w low)))
      (λ after. inr (omega (arith, next_row b m (n * w) h))))
      apart in
      ap (λ k. get_or now k None) spot ∙ blocks.outside _ side

-- what is written where each source entry is known
pub written_as : (n base : ℕ) (f g : ℕ → Time) (old new : List Time) → ((k : ℕ) → k < n → f k ≡ g k) → Written n base f old new → Written n base g old new
written_as n base f g old new h w = record { inside = λ k l. w.inside k l ∙ h k l; outside = w.outside }

pub runs_as : (n w base : ℕ) (f g : ℕ → ℕ → Time) (old new : List Time) → ((d r : ℕ) → r < w → f d r ≡ g d r) → Runs n w base f old new → Runs n w base g old new
runs_as n w base f g old new h x = record { inside = λ d r l k. x.inside d r l k ∙ h d r k; outside = x.outside }

-- n runs that are written in a part of the cells, which is as long as they are
pub runs_part : (n m w base k : ℕ) (f g : ℕ → Time) (old before part : List Time) → m ≡ n → base + n * w ≤ length old → k ≡ n * w → length part ≡ n * w
    → ((d : ℕ) → d < n → f d ≡ g d) → Runs m w 0 (λ d _. f d) before part → Runs n w base (λ d _. g d) old (put_mid base k old part)
runs_part n m w base k f g old before part count l em e same runs =
    let here : Written (n * w) base (λ i. get_or part i None) old (put_mid base k old part) = written_part (n * w) base k _ old part l em e (λ i h. refl) in
    record {
      inside = λ d r h lt.
          let spot : d * w + r ≡ 0 + (d * w + r) = omega arith in
          here.inside (d * w + r) (in_block n w d r h lt) ∙ ap (λ i. get_or part i None) spot ∙ runs.inside d r (omega arith) lt ∙ same d h;
      outside = here.outside;
    }

-- a first block that is copied to the others of its row
pub blocks_spread : (m n w base : ℕ) (f : ℕ → ℕ → Time) (old mid new : List Time) → 0 < m → Runs n w base f old mid
    → Runs (m - 1) (n * w) (base + n * w) (λ _ r. get_or mid (base + r) None) mid new → Blocks m n w base (λ _ d r. f d r) old new
blocks_spread m n w base f old mid new some first spread =
    record {
      inside = block_in;
      outside = λ k side. spread.outside k (⊎_elim (λ lt. inl (omega arith)) (λ ge. inr (omega (arith, whole))) side)
          ∙ first.outside k (⊎_elim inl (λ after. inr (omega (arith, rows_up 1 m (n * w) some))) side);
    }
  where
    whole : m * (n * w) ≡ n * w + (m - 1) * (n * w)
    whole = let e : m ≡ m - 1 + 1 = omega arith in omega (arith, ap (λ k. k * (n * w)) e, one_row_more (m - 1) (n * w))

    block_in : (b d r : ℕ) → b < m → d < n → r < w → get_or new (base + (b * (n * w) + (d * w + r))) None ≡ f d r
    block_in zero d r h k l =
        let spot : base + (0 * (n * w) + (d * w + r)) ≡ base + (d * w + r) = omega arith in
        ap (λ i. get_or new i None) spot ∙ spread.outside _ (inl (omega (arith, in_block n w d r k l))) ∙ first.inside d r k l
    block_in (suc b) d r h k l =
        let spot : base + (suc b * (n * w) + (d * w + r)) ≡ base + n * w + (b * (n * w) + (d * w + r)) = omega (arith, suc-mul b (n * w)) in
        ap (λ i. get_or new i None) spot ∙ spread.inside b (d * w + r) (omega arith) (in_block n w d r k l) ∙ first.inside d r k l
