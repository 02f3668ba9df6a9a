-- Rows of cells as charts, and what a loop leaves of them. Assumes nothing.
use Rattle.std.specs.Prelude.{◌≡◌, ℕ, ◌+◌, ◌*◌, ◌<◌, ◌≤◌, false, List, length, get_or, take, drop, None, ◌≢◌, slice_index, slice_index_or, refl}
use Rattle.std.proofs.Common.{sym, ap, ap₂, subst, ◌∙◌, inl, inr, ⊎_elim, arith}
use Rattle.std.proofs.lemmas.List.{length-take, length-drop, length-take-le, get_or-take, get_or-drop, ext_get_or}
use Rattle.std.proofs.lemmas.Bool.{cases_order}
use Rattle.model.specs.Scenes.{Shape, size}
use Rattle.model.specs.Lists.{some}
use Rattle.model.specs.Charts.{Time, Chart, late, zipped, dialled, put_chart}
use Rattle.model.proofs.Charting.{zipped_length, zipped_at}
use Rattle.model.proofs.Testing.{none_at}
use Rattle.model.proofs.Sizes.{size_split}
use Rattle.model.proofs.Strides.{stride, spot, dialled_by_strides, put_by_strides}
use Rattle.flat.specs.Rows.{row}
use Rattle.cells.specs.Writes.{Outside, Apart, Written, Blocks}
use Rattle.cells.proofs.Writing.{next_row, in_block}

-- Places of rows

pub apart_rows : (n a b : ℕ) → Apart n (a * n) (b * n)
apart_rows n a b =
    ⊎_elim (λ e. inl (ap (λ x. x * n) e)) (⊎_elim (λ h. inr (inl (next_row a b n h))) (λ h. inr (inr (next_row b a n h)))) (cases_order a b)

pub within_row : (p n len : ℕ) → p < 8 → 8 * n ≤ len → p * n + n ≤ len
within_row p n len h l = omega (arith, next_row p 8 n h)

other_place : (n t q k : ℕ) → (q ≢ t) → k < n → Outside n (t * n) (q * n + k)
other_place n t q k ne h =
    ⊎_elim (λ e. absurd (ne e)) (⊎_elim (λ lt. inl (omega (arith, next_row q t n lt))) (λ lt. inr (omega (arith, next_row t q n lt)))) (cases_order q t)

-- Rows

pub length_row : (cells : List Time) (n p : ℕ) → p < 8 → 8 * n ≤ length cells → length (row cells n p) ≡ n
length_row cells n p h l = length-take-le n (drop (p * n) cells) (omega (arith, length-drop (p * n) cells, next_row p 8 n h))

pub row_at : (cells : List Time) (n p k : ℕ) → k < n → slice_index_or (row cells n p) k None ≡ slice_index_or cells (p * n + k) None
row_at cells n p k h = get_or-take n (drop (p * n) cells) k None h ∙ get_or-drop (p * n) cells k None

-- a row is left where nothing is written
row_kept : (n t : ℕ) (old new : List Time) → length new ≡ length old → ((k : ℕ) → Outside n (t * n) k → slice_index_or new k None ≡ slice_index_or old k None) → (q : ℕ) → (q ≢ t) → row new n q ≡ row old n q
row_kept n t old new len outside q ne =
    ext_get_or None (row new n q) (row old n q)
    (length-take n (drop (q * n) new) ∙ (omega (arith, length-drop (q * n) new, length-drop (q * n) old, length-take n (drop (q * n) old))))
    (λ k h.
    let low : k < n = omega (arith, length-take n (drop (q * n) new)) in
    row_at new n q k low ∙ outside (q * n + k) (other_place n t q k ne low) ∙ sym (row_at old n q k low))

-- two rows that give a legal chart give no late entry
pub joined_legal : (n : ℕ) (cells : List Time) (op : Time → Time → Time) (l r : ℕ) → l < 8 → r < 8 → 8 * n ≤ length cells → some late (zipped op (row cells n l) (row cells n r)) ≡ false → (k : ℕ) → k < n → late (op (slice_index_or cells (l * n + k) None) (slice_index_or cells (r * n + k) None)) ≡ false
joined_legal n cells op l r hl hr room legal k h =
    let ll = length_row cells n l hl room in
    let lr = length_row cells n r hr room in
    let inside : k < length (zipped op (row cells n l) (row cells n r)) = omega (arith, zipped_length op (row cells n l) (row cells n r) (ll ∙ sym lr), ll) in
    ap late (sym (ap₂ op (row_at cells n l k h) (row_at cells n r k h)) ∙ sym (zipped_at op (row cells n l) (row cells n r) k (omega arith) (omega arith)))
    ∙ none_at late k (zipped op (row cells n l) (row cells n r)) None inside legal

-- the row of a peg has become a chart, and every other row is as it was
pub record RowHung (n t : ℕ) (c : Chart) (old new : List Time) : Type 0 where
  pub here : row new n t ≡ c
  pub others : (q : ℕ) → (q ≢ t) → row new n q ≡ row old n q

-- blocks by equal counts
pub blocks_as : (m n w base m' n' w' base' : ℕ) (f g : ℕ → ℕ → ℕ → Time) (old new : List Time) → m ≡ m' → n ≡ n' → w ≡ w' → base ≡ base' → ((b d r : ℕ) → f b d r ≡ g b d r) → Blocks m n w base f old new → Blocks m' n' w' base' g old new
blocks_as m n w base m' n' w' base' f g old new em en ew eb ef h =
    let same : Blocks m n w base g old new = record { inside = λ b d r hb hd hr. h.inside b d r hb hd hr ∙ ef b d r; outside = h.outside } in
    subst (λ (k : ℕ). Blocks k n' w' base' g old new) em
    (subst (λ (k : ℕ). Blocks m k w' base' g old new) en
    (subst (λ (k : ℕ). Blocks m n k base' g old new) ew
    (subst (λ (k : ℕ). Blocks m n w k g old new) eb same)))

-- the blocks make up the row
pub row_size : (ns : Shape) (v m n w : ℕ) → v < length ns → m ≡ size (take v ns) → n ≡ slice_index ns v → w ≡ stride ns v → m * (n * w) ≡ size ns
row_size ns v m n w h em en ew = (λ i. em i * (en i * ew i)) ∙ sym (size_split ns v h)

module _ (n t : ℕ) (old new : List Time) (low : t < 8) (room : 8 * n ≤ length old) (len : length new ≡ length old) where
  long : 8 * n ≤ length new
  long = omega arith

  pub joined_hung : (op : Time → Time → Time) (l r : ℕ) → l < 8 → r < 8 → Written n (t * n) (λ k. op (slice_index_or old (l * n + k) None) (slice_index_or old (r * n + k) None)) old new → RowHung n t (zipped op (row old n l) (row old n r)) old new
  joined_hung op l r hl hr w =
      let ll = length_row old n l hl room in
      let lr = length_row old n r hr room in
      let lz : length (zipped op (row old n l) (row old n r)) ≡ n = zipped_length op (row old n l) (row old n r) (ll ∙ sym lr) ∙ ll in
      let lt = length_row new n t low long in
      record {
        here = ext_get_or None (row new n t) (zipped op (row old n l) (row old n r)) (lt ∙ sym lz) (λ k h.
            let k_low : k < n = omega arith in
            row_at new n t k k_low ∙ w.inside k k_low
            ∙ sym (ap₂ op (row_at old n l k k_low) (row_at old n r k k_low))
            ∙ sym (zipped_at op (row old n l) (row old n r) k (omega arith) (omega arith)));
        others = row_kept n t old new len w.outside;
      }

module _ (ns : Shape) (v t : ℕ) (old new : List Time) (device : v < length ns) (low : t < 8) (room : 8 * size ns ≤ length old) (len : length new ≡ length old) where
  abbrev blocks : ℕ
  blocks = size (take v ns)

  abbrev count : ℕ
  count = slice_index ns v

  all_blocks : blocks * (count * stride ns v) ≡ size ns
  all_blocks = sym (size_split ns v device)

  spot_low : (b d r : ℕ) → b < blocks → d < count → r < stride ns v → spot ns v b d r < size ns
  spot_low b d r hb hd hr = omega (arith, in_block count (stride ns v) d r hd hr, next_row b blocks (count * stride ns v) hb, all_blocks)

  kept : (f : ℕ → ℕ → ℕ → Time) → Blocks blocks count (stride ns v) (t * size ns) f old new → (q : ℕ) → (q ≢ t) → row new (size ns) q ≡ row old (size ns) q
  kept f w = row_kept (size ns) t old new len (λ k side. w.outside k (subst (λ (m : ℕ). Outside m (t * size ns) k) (sym all_blocks) side))

  pub dial_hung : (es : List Time) → Blocks blocks count (stride ns v) (t * size ns) (λ _ d _. get_or es d None) old new → RowHung (size ns) t (dialled ns v es) old new
  dial_hung es w = record {
    here = dialled_by_strides ns v es (row new (size ns) t) device (length_row new (size ns) t low (omega arith)) (λ b d r hb hd hr.
        row_at new (size ns) t (spot ns v b d r) (spot_low b d r hb hd hr) ∙ w.inside b d r hb hd hr);
    others = kept _ w;
  }

  pub put_hung : (a d : ℕ) → d < count → Blocks blocks count (stride ns v) (t * size ns) (λ b _ r. get_or old (a * size ns + spot ns v b d r) None) old new → RowHung (size ns) t (put_chart ns v d (row old (size ns) a)) old new
  put_hung a d hd w = record {
    here = put_by_strides ns v d (row old (size ns) a) (row new (size ns) t) device (length_row new (size ns) t low (omega arith)) (λ b x r hb hx hr.
        row_at new (size ns) t (spot ns v b x r) (spot_low b x r hb hx hr) ∙ w.inside b x r hb hx hr
        ∙ sym (row_at old (size ns) a (spot ns v b d r) (spot_low b d r hb hd hr)));
    others = kept _ w;
  }

-- What a loop leaves, over the cells that are lent and the counts that are computed

module _ (ns : Shape) (n t : ℕ) (old lent new : List Time) (en : n ≡ size ns) (same : lent ≡ old) (low : t < 8) (room : 8 * size ns ≤ length old) (len : length new ≡ length old) where
  pub joined_left : (op : Time → Time → Time) (l r : ℕ) → l < 8 → r < 8 → Written n (t * n) (λ k. op (slice_index_or lent (l * n + k) None) (slice_index_or lent (r * n + k) None)) lent new → RowHung (size ns) t (zipped op (row old (size ns) l) (row old (size ns) r)) old new
  joined_left op l r hl hr w =
      subst (λ (xs : List Time). RowHung (size ns) t (zipped op (row xs (size ns) l) (row xs (size ns) r)) xs new) same
      (subst (λ (k : ℕ). RowHung k t (zipped op (row lent k l) (row lent k r)) lent new) en
      (joined_hung n t lent new low (omega (arith, ap length same)) (omega (arith, ap length same)) op l r hl hr w))

  module _ (v m c w : ℕ) (device : v < length ns) (em : m ≡ size (take v ns)) (ec : c ≡ slice_index ns v) (ew : w ≡ stride ns v) where
    pub dial_left : (es : List Time) → Blocks m c w (t * n) (λ _ d _. get_or es d None) lent new → RowHung (size ns) t (dialled ns v es) old new
    dial_left es h =
        subst (λ (xs : List Time). RowHung (size ns) t (dialled ns v es) xs new) same
        (dial_hung ns v t lent new device low (omega (arith, ap length same)) (omega (arith, ap length same)) es
        (blocks_as m c w (t * n) _ _ _ _ _ _ lent new em ec ew (ap (λ k. t * k) en) (λ b d r. refl) h))

    pub put_left : (a d : ℕ) → d < c → Blocks m c w (t * n) (λ b _ r. get_or lent (a * n + (b * (c * w) + (d * w + r))) None) lent new → RowHung (size ns) t (put_chart ns v d (row old (size ns) a)) old new
    put_left a d hd h =
        subst (λ (xs : List Time). RowHung (size ns) t (put_chart ns v d (row xs (size ns) a)) xs new) same
        (put_hung ns v t lent new device low (omega (arith, ap length same)) (omega (arith, ap length same)) a d (omega arith)
        (blocks_as m c w (t * n) _ _ _ _ _ _ lent new em ec ew (ap (λ k. t * k) en) (λ b x r. λ i. slice_index_or lent (a * en i + (b * (ec i * ew i) + (d * ew i + r))) None) h))
