-- The turns of loops that write cells, runs and blocks. Assumes nothing.
use Rattle.std.proofs.Common.{◌≡◌, ℕ, suc, ◌+◌, ◌-◌, ◌*◌, ◌++◌, take, drop, replicate, ◌<◌, ◌≤◌, ◌≢◌, ◌⊎◌, List, length, get_or, set, None, sym, ap, subst, ◌∙◌, inl, inr, ⊎_elim, refl, suc-mul, add-one, arith, below_more}
use Rattle.std.proofs.lemmas.Nat.{mul-le}
use Rattle.std.proofs.lemmas.List.{get_or-set_same, get_or-set_other, get_or-take, get_or-drop, get_or-append-add, length-take-le, length-drop, length-replicate, get_or-replicate}
use Rattle.std.proofs.lemmas.Slice.{take-put_mid, take-put_mid_below, drop-put_mid}
use Rattle.std.specs.List.{CopiedTo, SameBelow, SameFrom}
use borrow.Rule.Slice.PartMut.{put_mid}
use Rattle.std.proofs.lemmas.Bool.{cases_eq}
use Rattle.model.specs.Charts.{Time}
use Rattle.cells.specs.Writes.{Outside, Apart, Written, Runs, Blocks}

-- Products

-- row a ends where row a + 1 begins
pub next_row : (a b n : ℕ) → a < b → a * n + n ≤ b * n
next_row a b n h = omega (arith, mul-le (suc a) n b n h (omega arith), suc-mul a n)

pub rows_up : (a b n : ℕ) → a ≤ b → a * n ≤ b * n
rows_up a b n h = mul-le a n b n h (omega arith)

pub one_row_more : (a n : ℕ) → (a + 1) * n ≡ a * n + n
one_row_more a n = ap (λ k. k * n) (add-one a) ∙ suc-mul a n

-- Cells

-- nothing is written where there is no cell, no run or no block
pub written_none : (base : ℕ) (f : ℕ → Time) (old : List Time) → Written 0 base f old old
written_none base f old = record { inside = λ k h. absurd (omega arith); outside = λ k h. refl }

pub runs_none : (w base : ℕ) (f : ℕ → ℕ → Time) (old : List Time) → Runs 0 w base f old old
runs_none w base f old = record { inside = λ d r h l. absurd (omega arith); outside = λ k h. refl }

pub blocks_none : (n w base : ℕ) (f : ℕ → ℕ → ℕ → Time) (old : List Time) → Blocks 0 n w base f old old
blocks_none n w base f old = record { inside = λ b d r h k l. absurd (omega arith); outside = λ k h. refl }

pub written_more : (i base : ℕ) (f : ℕ → Time) (old now : List Time) (v : Time) → base + i < length now → Written i base f old now → v ≡ f i → Written (i + 1) base f old (set now (base + i) v)
written_more i base f old now v l w e =
    record {
      inside = below_more _ _
          (λ k lt. let ne : base + k ≢ base + i = omega arith in get_or-set_other now (base + i) (base + k) v None ne ∙ w.inside k lt)
          (get_or-set_same now (base + i) v None l ∙ e);
      outside = λ k side.
          let ne : k ≢ base + i = ⊎_elim (λ lt. omega arith) (λ ge. omega arith) side in
          let s : Outside i base k = ⊎_elim inl (λ ge. inr (omega arith)) side in
          get_or-set_other now (base + i) k v None ne ∙ w.outside k s;
    }

-- a cell to be read in a turn is as it was
pub cell_kept : (n i base from : ℕ) (f : ℕ → Time) (old now : List Time) → Apart n from base → i < n → Written i base f old now → get_or now (from + i) None ≡ get_or old (from + i) None
cell_kept n i base from f old now apart h w =
    w.outside (from + i) (⊎_elim (λ e. inr (omega arith)) (⊎_elim (λ e. inl (omega arith)) (λ e. inr (omega arith))) apart)

-- a part of the cells that is written as a whole
pub written_part : (n base m : ℕ) (f : ℕ → Time) (old part : List Time) → base + n ≤ length old → m ≡ n → length part ≡ n → ((k : ℕ) → k < n → get_or part k None ≡ f k) → Written n base f old (put_mid base m old part)
written_part n base m f old part l em e each =
    let new = put_mid base m old part in
    record {
      inside = λ k h.
          let front : take (base + n) new ≡ take base old ++ part = take-put_mid base m old part (base + n) (omega arith) (omega arith) in
          let spot : base + k ≡ length (take base old) + k = omega (arith, length-take-le base old (omega arith)) in
          sym (get_or-take (base + n) new (base + k) None (omega arith)) ∙ (λ i. get_or (front i) (spot i) None)
          ∙ get_or-append-add (take base old) part k None ∙ each k h;
      outside = λ k side. ⊎_elim
          (λ lt. sym (get_or-take base new k None lt) ∙ ap (λ xs. get_or xs k None) (take-put_mid_below base m old part base (omega arith) (omega arith)) ∙ get_or-take base old k None lt)
          (λ ge.
          let here : k + 0 ≡ k = omega arith in
          ap (λ i. get_or new i None) (sym here) ∙ sym (get_or-drop k new 0 None)
          ∙ ap (λ xs. get_or xs 0 None) (drop-put_mid base m old part k (omega arith) (omega arith) (omega arith))
          ∙ get_or-drop k old 0 None ∙ ap (λ i. get_or old i None) here)
          side;
    }

-- a run filled with one entry
pub written_fill : (n base at m : ℕ) (v : Time) (old part : List Time) → at ≡ base → at + n ≤ length old → m ≡ n → part ≡ replicate (length (take m (drop at old))) v → Written n base (λ _. v) old (put_mid at m old part)
written_fill n base at m v old part here l em e =
    let long : length (take m (drop at old)) ≡ n = length-take-le m (drop at old) (omega (arith, length-drop at old)) ∙ em in
    let w : Written n at (λ _. v) old (put_mid at m old part) =
    written_part n at m _ old part l em (ap length e ∙ length-replicate _ v ∙ long)
    (λ k h. ap (λ xs. get_or xs k None) e ∙ get_or-replicate _ k v None (omega arith)) in
    subst (λ k. Written n k (λ _. v) old (put_mid at m old part)) here w

-- a run copied to another, or to itself
pub written_copy : (n to from m : ℕ) (old new : List Time) → m ≡ n → CopiedTo old new from to m → SameBelow old new to → SameFrom old new (to + m) → Written n to (λ k. get_or old (from + k) None) old new
written_copy n to from m old new e copied below above =
    record {
      inside = λ k h.
          let spot : from + (to + k - to) ≡ from + k = omega arith in
          copied (to + k) None (omega arith) (omega arith) ∙ ap (λ i. get_or old i None) spot;
      outside = λ k side. ⊎_elim (λ lt. below k None lt) (λ ge. above k None (omega arith)) side;
    }

-- Runs

module _ (n w base : ℕ) (f : ℕ → ℕ → Time) (old now new : List Time) (before : Runs n w base f old now) (here : Written w (base + n * w) (f n) now new) where
  run_inside : (d : ℕ) → (d < n) ⊎ (d ≡ n) → (r : ℕ) → r < w → get_or new (base + (d * w + r)) None ≡ f d r
  run_inside d (inl lt) r h = here.outside (base + (d * w + r)) (inl (omega (arith, next_row d n w lt))) ∙ before.inside d r lt h
  run_inside d (inr e) r h =
      let spot : base + (d * w + r) ≡ base + n * w + r = omega (arith, ap (λ k. k * w) e) in
      ap (λ k. get_or new k None) spot ∙ here.inside r h ∙ ap (λ k. f k r) (sym e)

  pub runs_more : Runs (n + 1) w base f old new
  runs_more = record {
    inside = λ d r h l. run_inside d (⊎_elim (λ e. inr e) (λ ne. inl (omega arith)) (cases_eq d n)) r l;
    outside = λ k side.
        let a : Outside w (base + n * w) k = ⊎_elim (λ lt. inl (omega arith)) (λ ge. inr (omega (arith, one_row_more n w))) side in
        let b : Outside (n * w) base k = ⊎_elim (λ lt. inl lt) (λ ge. inr (omega (arith, one_row_more n w))) side in
        here.outside k a ∙ before.outside k b;
  }

-- Blocks

-- a place in a run lies in its block
pub in_block : (n w d r : ℕ) → d < n → r < w → d * w + r < n * w
in_block n w d r h l = omega (arith, next_row d n w h)

module _ (m n w base : ℕ) (f : ℕ → ℕ → ℕ → Time) (old now new : List Time) (before : Blocks m n w base f old now) (here : Runs n w (base + m * (n * w)) (f m) now new) where
  block_inside : (b : ℕ) → (b < m) ⊎ (b ≡ m) → (d r : ℕ) → d < n → r < w → get_or new (base + (b * (n * w) + (d * w + r))) None ≡ f b d r
  block_inside b (inl lt) d r h l =
      here.outside (base + (b * (n * w) + (d * w + r))) (inl (omega (arith, next_row b m (n * w) lt, in_block n w d r h l))) ∙ before.inside b d r lt h l
  block_inside b (inr e) d r h l =
      let spot : base + (b * (n * w) + (d * w + r)) ≡ base + m * (n * w) + (d * w + r) = omega (arith, ap (λ k. k * (n * w)) e) in
      ap (λ k. get_or new k None) spot ∙ here.inside d r h l ∙ ap (λ k. f k d r) (sym e)

  pub blocks_more : Blocks (m + 1) n w base f old new
  blocks_more = record {
    inside = λ b d r h k l. block_inside b (⊎_elim (λ e. inr e) (λ ne. inl (omega arith)) (cases_eq b m)) d r k l;
    outside = λ k side.
        let a : Outside (n * w) (base + m * (n * w)) k = ⊎_elim (λ lt. inl (omega arith)) (λ ge. inr (omega (arith, one_row_more m (n * w)))) side in
        let b : Outside (m * (n * w)) base k = ⊎_elim (λ lt. inl lt) (λ ge. inr (omega (arith, one_row_more m (n * w)))) side in
        here.outside k a ∙ before.outside k b;
  }
