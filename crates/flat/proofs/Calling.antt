-- The calls of a flat shelf: when they are refused, and what they leave. Assumes nothing.
use Rattle.std.proofs.Common.{not, ◌≡◌, ℕ, ◌<◌, Bool, true, false, ◌&&◌, ◌||◌, ltb, leb, List, [], ◌∷◌, length, get_or, take, None, Ok, Err, vec_items, sym, refl, ap, ◌∙◌, ap₂, arith}
use Rattle.std.specs.List.{AllByRecursion}
use Rattle.std.proofs.lemmas.Bool.{and_right, lt-leb}
use Rattle.model.specs.Lists.{some}
use Rattle.model.specs.Scenes.{Shape, Scene, size, rank}
use Rattle.model.specs.Charts.{Time, Chart, at, lesser, plus, zipped, dialled, put_chart, greatest, late, same_chart}
use Rattle.model.specs.Refusals.{refuse, answer}
use Rattle.model.specs.Shelves.{Meaning, Sound, Call, dial, cheaper, sum, put, on, bare, high, no_room, call_checks, does, done, compares, reads, scene_checks}
use Rattle.model.proofs.Refusing.{refuses, accepts, accepted, accepted_is, accepted_first}
use Rattle.model.proofs.Ranks.{rank_less, tests_scene}
use Rattle.model.proofs.Soundness.{call_accepted, hung_legal}
use Rattle.shelf.specs.Shapes.{shape_of}
use Rattle.flat.specs.Rows.{row, flat}
use Rattle.flat.specs.declared.store.FlatShelf.{FlatShelf}
use Rattle.shelf.specs.declared.numbers.Peg.{Peg}
use Rattle.flat.specs.Means.{means, row_of, hanging}
use Rattle.shelf.specs.Numbers.{Names, Hangs}
use Rattle.shelf.proofs.Calling.{low_peg, low_pegs, all_low, none_bare, compares_charts, Answered}
use Rattle.flat.specs.Hanging.{bare_at, row_on, sound_of}

-- the place of a scene that passes its checks
pub placed : (ns : Shape) (s : Scene) (k : ℕ) → Ok k ≡ answer (scene_checks ns s) (rank ns s) → (k ≡ rank ns s) × (k < size ns)
placed ns s k e =
    let checks = accepted (scene_checks ns s) (rank ns s) k (sym e) in
    let same = accepted_is (scene_checks ns s) (rank ns s) k (sym e) in
    (sym same, omega (arith, same, rank_less ns s (tests_scene ns s checks.0 checks.1.0)))

module _ (ns : Shape) (cells : List Time) (hung : List Bool) where
  abbrev m : Meaning
  m = flat ns cells hung

  pub tells : (p : ℕ) → p < 8 → bare m.pegs p ≡ not (get_or hung p false)
  tells p h = bare_at ns cells hung p h (get_or hung p false) refl

  -- Two pegs to be read
  module _ (l r : ℕ) (hl : l < 8) (hr : r < 8) where
    module _ (el : get_or hung l false ≡ true) (er : get_or hung r false ≡ true) where
      same_rows : compares m l r ≡ Ok (same_chart (row cells (size ns) l) (row cells (size ns) r))
      same_rows =
          compares_charts m hung tells l r hl hr el er
          ∙ ap Ok (ap₂ same_chart (row_on ns cells hung l hl el) (row_on ns cells hung r hr er))

      pub compares_rows : (a b : Chart) (x : Bool) → x ≡ same_chart a b → a ≡ row cells (size ns) l → b ≡ row cells (size ns) r → Ok x ≡ compares m l r
      compares_rows a b x e ea eb = ap Ok (e ∙ ap₂ same_chart ea eb) ∙ sym same_rows

    module _ (t : ℕ) (ht : t < 8) where
      module _ (el : get_or hung l false ≡ true) (er : get_or hung r false ≡ true) where
        joined_rows : (op : Time → Time → Time) → zipped op (on m.pegs l) (on m.pegs r) ≡ zipped op (row cells (size ns) l) (row cells (size ns) r)
        joined_rows op = ap₂ (zipped op) (row_on ns cells hung l hl el) (row_on ns cells hung r hr er)

        cheaper_checks : AllByRecursion (λ k. k.holds ≡ false) (call_checks m (cheaper t l r))
        cheaper_checks = (all_low t l r ht hl hr, (none_bare m hung tells l r hl hr el er, (refl, tt)))

        cheaper_does : does m (cheaper t l r) ≡ Ok tt
        cheaper_does = accepts (call_checks m (cheaper t l r)) tt cheaper_checks

        cheaper_done : (n : Meaning) → n ≡ hanging m t (zipped lesser (row cells (size ns) l) (row cells (size ns) r)) → n ≡ done m (cheaper t l r)
        cheaper_done n e = e ∙ ap (hanging m t) (sym (joined_rows lesser)) ∙ sym (call_accepted m (cheaper t l r) cheaper_does)

        cheaper_legal : Sound m → some late (zipped lesser (row cells (size ns) l) (row cells (size ns) r)) ≡ false
        cheaper_legal s = ap (some late) (sym (joined_rows lesser)) ∙ hung_legal m s (cheaper t l r) cheaper_checks

        sum_of : late (plus (greatest (on m.pegs l)) (greatest (on m.pegs r))) ≡ late (plus (greatest (row cells (size ns) l)) (greatest (row cells (size ns) r)))
        sum_of = λ i. late (plus (greatest (row_on ns cells hung l hl el i)) (greatest (row_on ns cells hung r hr er i)))

        sum_late : (b : Bool) → b ≡ late (plus (greatest (row cells (size ns) l)) (greatest (row cells (size ns) r))) → b ≡ true → does m (sum t l r) ≡ Err 16
        sum_late b f e = refuses (refuse 14 (high t || (high l || high r)) ∷ refuse 15 (bare m.pegs l || bare m.pegs r) ∷ []) 16 (late (plus (greatest (on m.pegs l)) (greatest (on m.pegs r)))) (no_room m (sum t l r) ∷ []) tt (all_low t l r ht hl hr, (none_bare m hung tells l r hl hr el er, tt)) (sum_of ∙ sym f ∙ e)

        module _ (b : Bool) (told : b ≡ late (plus (greatest (row cells (size ns) l)) (greatest (row cells (size ns) r)))) (timely : b ≡ false) where
          sum_checks : AllByRecursion (λ k. k.holds ≡ false) (call_checks m (sum t l r))
          sum_checks = (all_low t l r ht hl hr, (none_bare m hung tells l r hl hr el er, (sum_of ∙ sym told ∙ timely, (refl, tt))))

          sum_does : does m (sum t l r) ≡ Ok tt
          sum_does = accepts (call_checks m (sum t l r)) tt sum_checks

          sum_done : (n : Meaning) → n ≡ hanging m t (zipped plus (row cells (size ns) l) (row cells (size ns) r)) → n ≡ done m (sum t l r)
          sum_done n e = e ∙ ap (hanging m t) (sym (joined_rows plus)) ∙ sym (call_accepted m (sum t l r) sum_does)

          sum_legal : Sound m → some late (zipped plus (row cells (size ns) l) (row cells (size ns) r)) ≡ false
          sum_legal s = ap (some late) (sym (joined_rows plus)) ∙ hung_legal m s (sum t l r) sum_checks

  -- A dial
  module _ (t v : ℕ) (es : List Time) (device : v < length ns) (ht : t < 8) (timely : some late (take (get_or ns v 0) es) ≡ false) where
    dial_checks : AllByRecursion (λ k. k.holds ≡ false) (call_checks m (dial t v es))
    dial_checks = (lt-leb (length ns) v device, (low_peg t ht, (timely, (refl, tt))))

    pub dial_legal : Sound m → some late (dialled ns v es) ≡ false
    dial_legal s = hung_legal m s (dial t v es) dial_checks

  -- A put
  module _ (t a v d : ℕ) where
    module _ (device : v < length ns) where
      module _ (setting : d < get_or ns v 0) where
        setting_low : (ltb v (length ns) && leb (get_or ns v 0) d) ≡ false
        setting_low = and_right (ltb v (length ns)) (leb (get_or ns v 0) d) (lt-leb (get_or ns v 0) d setting)

        module _ (ht : t < 8) (ha : a < 8) where
          module _ (ea : get_or hung a false ≡ true) where
            put_rows : put_chart ns v d (on m.pegs a) ≡ put_chart ns v d (row cells (size ns) a)
            put_rows = ap (put_chart ns v d) (row_on ns cells hung a ha ea)

            put_checks : AllByRecursion (λ k. k.holds ≡ false) (call_checks m (put t a v d))
            put_checks = (lt-leb (length ns) v device, (setting_low, (low_pegs t a ht ha, (bare_at ns cells hung a ha true ea, (refl, tt)))))

            put_does : does m (put t a v d) ≡ Ok tt
            put_does = accepts (call_checks m (put t a v d)) tt put_checks

            put_done : (n : Meaning) → n ≡ hanging m t (put_chart ns v d (row cells (size ns) a)) → n ≡ done m (put t a v d)
            put_done n e = e ∙ ap (hanging m t) (sym put_rows) ∙ sym (call_accepted m (put t a v d) put_does)

            put_legal : Sound m → some late (put_chart ns v d (row cells (size ns) a)) ≡ false
            put_legal s = ap (some late) (sym put_rows) ∙ hung_legal m s (put t a v d) put_checks

  -- A read
  module _ (p : ℕ) (s : Scene) where
    module _ (k : ℕ) (scene : Ok k ≡ answer (scene_checks ns s) (rank ns s)) where
      pub reads_peg : reads m p s ≡ answer (refuse 14 (high p) ∷ refuse 15 (bare m.pegs p) ∷ []) (at ns (on m.pegs p) s)
      reads_peg = accepted_first (scene_checks ns s) (refuse 14 (high p) ∷ refuse 15 (bare m.pegs p) ∷ []) (rank ns s) k (at ns (on m.pegs p) s) (sym scene)

      module _ (hp : p < 8) where
        row_read : get_or hung p false ≡ true → reads m p s ≡ Ok (get_or (row cells (size ns) p) (rank ns s) None)
        row_read e =
            reads_peg ∙ accepts (refuse 14 (high p) ∷ refuse 15 (bare m.pegs p) ∷ []) _ (low_peg p hp, (bare_at ns cells hung p hp true e, tt))
            ∙ ap (λ c. Ok (at ns c s)) (row_on ns cells hung p hp e)

        pub reads_row : get_or hung p false ≡ true → (c : Chart) → c ≡ row cells (size ns) p → Ok (get_or c k None) ≡ reads m p s
        reads_row e c f = (λ i. Ok (get_or (f i) ((placed ns s k scene).0 i) None)) ∙ sym (row_read e)

-- two pegs that hang, joined onto a third
module _ (s : FlatShelf) (t l r : ℕ) (target left right : Peg) (named : target.number ≡ t) (hang : Hangs s.hung l left.number × Hangs s.hung r right.number) where
  joined : (ask : ℕ → ℕ → ℕ → Call) (n : Meaning) → does (means s) (ask target.number left.number right.number) ≡ Ok tt → n ≡ done (means s) (ask target.number left.number right.number) → Answered (means s) (ask t l r) (Ok tt) n
  joined ask n passed leaves = rw (sym named, sym hang.0.0, sym hang.1.0) (record { answer = sym passed; left = leaves })

  pub cheaper_timely : some late (zipped lesser (row_of s left.number) (row_of s right.number)) ≡ false
  cheaper_timely = cheaper_legal (shape_of s.shape) (vec_items s.cells) s.hung _ _ left.low right.low _ target.low hang.0.1 hang.1.1 (sound_of s)

  pub cheaper_joined : (n : Meaning) → n ≡ hanging (means s) target.number (zipped lesser (row_of s left.number) (row_of s right.number)) → Answered (means s) (cheaper t l r) (Ok tt) n
  cheaper_joined n h =
      joined cheaper n (cheaper_does (shape_of s.shape) (vec_items s.cells) s.hung _ _ left.low right.low _ target.low hang.0.1 hang.1.1)
      (cheaper_done (shape_of s.shape) (vec_items s.cells) s.hung _ _ left.low right.low _ target.low hang.0.1 hang.1.1 n h)

  module _ (b : Bool) (told : b ≡ late (plus (greatest (row_of s left.number)) (greatest (row_of s right.number)))) where
    pub sum_too_late : b ≡ true → does (means s) (sum t l r) ≡ Err 16
    sum_too_late e =
        rw (sym named, sym hang.0.0, sym hang.1.0)
        (sum_late (shape_of s.shape) (vec_items s.cells) s.hung _ _ left.low right.low _ target.low hang.0.1 hang.1.1 b told e)

    pub sum_timely : b ≡ false → some late (zipped plus (row_of s left.number) (row_of s right.number)) ≡ false
    sum_timely e = sum_legal (shape_of s.shape) (vec_items s.cells) s.hung _ _ left.low right.low _ target.low hang.0.1 hang.1.1 b told e (sound_of s)

    pub sum_joined : b ≡ false → (n : Meaning) → n ≡ hanging (means s) target.number (zipped plus (row_of s left.number) (row_of s right.number)) → Answered (means s) (sum t l r) (Ok tt) n
    sum_joined e n h =
        joined sum n (sum_does (shape_of s.shape) (vec_items s.cells) s.hung _ _ left.low right.low _ target.low hang.0.1 hang.1.1 b told e)
        (sum_done (shape_of s.shape) (vec_items s.cells) s.hung _ _ left.low right.low _ target.low hang.0.1 hang.1.1 b told e n h)

-- a chart that hangs on the source, put at a setting of a device and hung on the target
module _ (s : FlatShelf) (t a v d : ℕ) (target source : Peg) (device setting count : ℕ) (named : target.number ≡ t) (hang : Hangs s.hung a source.number) (there : Names (length (shape_of s.shape)) v device) (chosen : setting ≡ d) (below : setting < count) (many : count ≡ get_or (shape_of s.shape) device 0) where
  low : setting < get_or (shape_of s.shape) device 0
  low = omega (arith, below, many)

  pub put_timely : some late (put_chart (shape_of s.shape) device setting (row_of s source.number)) ≡ false
  put_timely = put_legal (shape_of s.shape) (vec_items s.cells) s.hung _ _ _ _ there.1 low target.low source.low hang.1 (sound_of s)

  pub put_there : (n : Meaning) → n ≡ hanging (means s) target.number (put_chart (shape_of s.shape) device setting (row_of s source.number)) → Answered (means s) (put t a v d) (Ok tt) n
  put_there n h =
      rw (sym named, sym hang.0, sym there.0, sym chosen) (record {
        answer = sym (put_does (shape_of s.shape) (vec_items s.cells) s.hung _ _ _ _ there.1 low target.low source.low hang.1);
        left = put_done (shape_of s.shape) (vec_items s.cells) s.hung _ _ _ _ there.1 low target.low source.low hang.1 n h;
      })
