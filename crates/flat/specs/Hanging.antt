-- What a write does to the meaning of a flat shelf. Assumes nothing.
use Rattle.std.specs.Prelude.{◌≡◌, ℕ, ◌+◌, ◌*◌, ◌<◌, ◌≤◌, Bool, true, false, cond, not, List, map, length, get_or, IfSome, Some, None, Option, ◌≢◌, slice_index, slice_index_or, slice_set, take, vec_items, vec_len}
use Rattle.std.proofs.Common.{sym, ap, subst, ◌∙◌, ⊎_elim, arith}
use Rattle.std.specs.List.{range_with_len}
use Rattle.std.specs.Vec.{with_items}
use Rattle.std.proofs.lemmas.List.FromFn.{length-map-range_with_len, get_or-map-range_with_len}
use Rattle.std.proofs.lemmas.List.{same_lists, length-set, get_or-set_same, get_or-set_other, get_or_past, with_items_is}
use Rattle.std.proofs.lemmas.Bool.{cases_eq, cases_lt}
use Rattle.model.specs.Lists.{some}
use Rattle.model.specs.Scenes.{Shape, size, shape_off}
use Rattle.model.specs.Charts.{Time, Chart, late, zipped, dialled, put_chart}
use Rattle.model.specs.Shelves.{Meaning, Pegs, Sound, chart_of, on, bare, with_pegs, flat_fill}
use Rattle.model.proofs.Strides.{stride}
use Rattle.shelf.specs.Shapes.{shape_of}
use Rattle.cells.specs.Writes.{Written, Blocks}
use Rattle.flat.specs.declared.store.FlatShelf.{FlatShelf}
use Rattle.flat.specs.Rows.{row, peg, flat, Timely}
use Rattle.flat.specs.Means.{means, row_of, hanging}
use Rattle.flat.specs.Rowing.{RowHung, length_row, joined_left, dial_left, put_left}

-- a table in which one entry is set
set_table : {X : Type 0} (f g : ℕ → X) (n p : ℕ) (v : X) → p < n → g p ≡ v → ((q : ℕ) → (q ≢ p) → g q ≡ f q) → map g (range_with_len 0 n) ≡ slice_set (map f (range_with_len 0 n)) p v
set_table {X} f g n p v within here there =
    same_lists _ _ (length-map-range_with_len g 0 n ∙ sym (length-set (map f (range_with_len 0 n)) p v ∙ length-map-range_with_len f 0 n))
    (λ k d h. at k d (simp length-map-range_with_len at h))
  where
    at : (k : ℕ) (d : X) → k < n → slice_index_or (map g (range_with_len 0 n)) k d ≡ slice_index_or (slice_set (map f (range_with_len 0 n)) p v) k d
    at k d h =
        ⊎_elim
        (λ e. get_or-map-range_with_len g 0 n k k d h (omega arith) ∙ ap g e ∙ here ∙ sym (get_or-set_same (map f (range_with_len 0 n)) p v d (simp length-map-range_with_len within)) ∙ ap (λ j. get_or (slice_set (map f (range_with_len 0 n)) p v) j d) (sym e))
        (λ ne. get_or-map-range_with_len g 0 n k k d h (omega arith) ∙ there k ne ∙ sym (get_or-map-range_with_len f 0 n k k d h (omega arith)) ∙ sym (get_or-set_other (map f (range_with_len 0 n)) p k v d ne))
        (cases_eq k p)

module _ (ns : Shape) (cells : List Time) (hung : List Bool) where
  abbrev with : Pegs → Meaning
  with ps = record { shape = ns; capacity = 0; fill = flat_fill; pegs = ps }

  -- What the pegs carry

  pub peg_at : (p : ℕ) → p < 8 → slice_index_or (flat ns cells hung).pegs p None ≡ peg ns cells hung p
  peg_at p h = get_or-map-range_with_len (peg ns cells hung) 0 8 p p None h (omega arith)

  pub bare_at : (p : ℕ) → p < 8 → (b : Bool) → slice_index_or hung p false ≡ b → bare (flat ns cells hung).pegs p ≡ not b
  bare_at p h true e = rw (peg_at p h, e)
  bare_at p h false e = rw (peg_at p h, e)

  pub row_on : (p : ℕ) → p < 8 → slice_index_or hung p false ≡ true → on (flat ns cells hung).pegs p ≡ row cells (size ns) p
  row_on p h e = rw (peg_at p h, e)

  pub row_legal : (p : ℕ) → slice_index_or hung p false ≡ true → Timely ns cells hung → some late (row cells (size ns) p) ≡ false
  row_legal p e h = rw e at (h p)

  -- What a write leaves

  module _ (eight : length hung ≡ 8) (t : ℕ) (low : t < 8) where
    inside : t < length hung
    inside = omega arith

    pub flat_wiped : flat ns cells (slice_set hung t false) ≡ with_pegs (flat ns cells hung) (slice_set (flat ns cells hung).pegs t None)
    flat_wiped =
        ap with (set_table (peg ns cells hung) (peg ns cells (slice_set hung t false)) 8 t None low
        (ap (λ b. cond b (Some (row cells (size ns) t)) None) (get_or-set_same hung t false false inside))
        (λ q ne. ap (λ b. cond b (Some (row cells (size ns) q)) None) (get_or-set_other hung t q false false ne)))

    pub timely_wiped : Timely ns cells hung → Timely ns cells (slice_set hung t false)
    timely_wiped old p =
        ⊎_elim
        (λ e. subst (λ (q : ℕ). some late (chart_of (peg ns cells (slice_set hung t false) q)) ≡ false) (sym e) (rw (get_or-set_same hung t false false inside)))
        (λ ne. rw (get_or-set_other hung t p false false ne) (old p))
        (cases_eq p t)

    module _ (new : List Time) (c : Chart) (w : RowHung (size ns) t c cells new) where
      pub flat_hung : flat ns new (slice_set hung t true) ≡ hanging (flat ns cells hung) t c
      flat_hung =
          ap with (set_table (peg ns cells hung) (peg ns new (slice_set hung t true)) 8 t (Some c) low
          (rw (get_or-set_same hung t true false inside, w.here))
          (λ q ne. rw (get_or-set_other hung t q true false ne, w.others q ne)))

      pub timely_hung : Timely ns cells hung → some late c ≡ false → Timely ns new (slice_set hung t true)
      timely_hung old legal p =
          ⊎_elim
          (λ e. subst (λ (q : ℕ). some late (chart_of (peg ns new (slice_set hung t true) q)) ≡ false) (sym e) (rw (get_or-set_same hung t true false inside, w.here) legal))
          (λ ne. rw (get_or-set_other hung t p true false ne, w.others p ne) (old p))
          (cases_eq p t)

  -- Soundness

  peg_whole : (b : Bool) (p : ℕ) → length (row cells (size ns) p) ≡ size ns → IfSome (cond b (Some (row cells (size ns) p)) None) (λ c. length c ≡ size ns)
  peg_whole true p h = h
  peg_whole false p h = tt

  peg_timely : (b : Bool) (c : Chart) → some late (chart_of (cond b (Some c) None)) ≡ false → IfSome (cond b (Some c) None) (λ d. some late d ≡ false)
  peg_timely true c h = h
  peg_timely false c h = tt

  at_each : (P : Chart → Type 0) → ((p : ℕ) → p < 8 → IfSome (peg ns cells hung p) P) → (p : ℕ) → IfSome (slice_index_or (flat ns cells hung).pegs p None) P
  at_each P h p =
      ⊎_elim
      (λ lt. subst (λ (o : Option Chart). IfSome o P) (sym (peg_at p lt)) (h p lt))
      (λ ge. subst (λ (o : Option Chart). IfSome o P) (sym (get_or_past (flat ns cells hung).pegs p None (omega (arith, length-map-range_with_len (peg ns cells hung) 0 8)))) tt)
      (cases_lt p 8)

  pub flat_sound : shape_off ns ≡ false → 8 * size ns ≤ length cells → Timely ns cells hung → Sound (flat ns cells hung)
  flat_sound legal room old = record {
    legal = legal;
    eight = length-map-range_with_len (peg ns cells hung) 0 8;
    whole = at_each (λ c. length c ≡ size ns) (λ p lt. peg_whole (slice_index_or hung p false) p (length_row cells (size ns) p lt room));
    timely = at_each (λ c. some late c ≡ false) (λ p lt. peg_timely (slice_index_or hung p false) (row cells (size ns) p) (old p));
  }

pub sound_of : (s : FlatShelf) → Sound (means s)
sound_of s = flat_sound (shape_of s.shape) (vec_items s.cells) s.hung s.shape.legal (omega (arith, s.room, s.cells.ok.0)) s.timely

-- What a call leaves that has written the row of a peg

-- a chart hangs on peg t once its row is written
pub record Leaves (s : FlatShelf) (t : ℕ) (c : Chart) (new : List Time) : Type 0 where
  pub hung : flat (shape_of s.shape) (with_items s.cells new).items (slice_set s.hung t true) ≡ hanging (means s) t c
  pub timely : some late c ≡ false → Timely (shape_of s.shape) (with_items s.cells new).items (slice_set s.hung t true)

module _ (s : FlatShelf) (n t : ℕ) (lent new : List Time) (en : n ≡ size (shape_of s.shape)) (same : lent ≡ vec_items s.cells) (low : t < 8) (eight : length s.hung ≡ 8) (len : length new ≡ vec_len s.cells) where
  abbrev ns : Shape
  ns = shape_of s.shape

  room : 8 * size ns ≤ length (vec_items s.cells)
  room = omega (arith, s.room, s.cells.ok.0)

  long : length new ≡ length (vec_items s.cells)
  long = omega (arith, len, s.cells.ok.0)

  leaves : (c : Chart) → RowHung (size ns) t c (vec_items s.cells) new → Leaves s t c new
  leaves c w = record {
    hung =
        ap (λ (xs : List Time). flat ns xs (slice_set s.hung t true)) (with_items_is s.cells new len)
        ∙ flat_hung ns (vec_items s.cells) s.hung eight t low new c w;
    timely = λ legal.
        subst (λ (xs : List Time). Timely ns xs (slice_set s.hung t true)) (sym (with_items_is s.cells new len))
        (timely_hung ns (vec_items s.cells) s.hung eight t low new c w s.timely legal);
  }

  pub joined_leaves : (op : Time → Time → Time) (l r : ℕ) → l < 8 → r < 8 → Written n (t * n) (λ k. op (slice_index_or lent (l * n + k) None) (slice_index_or lent (r * n + k) None)) lent new → Leaves s t (zipped op (row_of s l) (row_of s r)) new
  joined_leaves op l r hl hr w = leaves _ (joined_left ns n t (vec_items s.cells) lent new en same low room long op l r hl hr w)

  module _ (v m c w : ℕ) (device : v < length ns) (em : m ≡ size (take v ns)) (ec : c ≡ slice_index ns v) (ew : w ≡ stride ns v) where
    pub dial_leaves : (es : List Time) → Blocks m c w (t * n) (λ _ d _. slice_index_or es d None) lent new → Leaves s t (dialled ns v es) new
    dial_leaves es h = leaves _ (dial_left ns n t (vec_items s.cells) lent new en same low room long v m c w device em ec ew es h)

    pub put_leaves : (a d : ℕ) → d < c → Blocks m c w (t * n) (λ b _ r. slice_index_or lent (a * n + (b * (c * w) + (d * w + r))) None) lent new → Leaves s t (put_chart ns v d (row_of s a)) new
    put_leaves a d hd h = leaves _ (put_left ns n t (vec_items s.cells) lent new en same low room long v m c w device em ec ew a d hd h)
