-- The laws of entries and charts. Assumes nothing.
use Rattle.std.proofs.Common.{◌≡◌, ℕ, zero, suc, ◌<◌, [], ◌∷◌, length, get_or, set, Some, None, Decides, refl, ap, ◌∙◌, ap₂, add_assoc, add_comm, arith}
use Rattle.std.proofs.lemmas.List.{set-set}
use Rattle.std.proofs.lemmas.Bool.{eqb-true, eq-eqb, and_parts, and_from}
use Rattle.model.specs.Scenes.{Shape, size}
use Rattle.model.specs.Charts.{Time, Chart, at, lesser, plus, zipped, put_chart, same_time, same_chart}
use Rattle.model.specs.ChartLaws.{CheaperLaws, SumLaws, PutOnce, SameIsEqual, Lengths}
use Rattle.model.proofs.Ranks.{tabulated, tabulated_as, tabulated_length, set_scene}

-- Two charts joined entry by entry

pub zipped_comm : (f : Time → Time → Time) → ((x y : Time) → f x y ≡ f y x) → (a b : Chart) → zipped f a b ≡ zipped f b a
zipped_comm f h [] [] = refl
zipped_comm f h [] (y ∷ b) = refl
zipped_comm f h (x ∷ a) [] = refl
zipped_comm f h (x ∷ a) (y ∷ b) = ap₂ (λ (z : Time) (c : Chart). z ∷ c) (h x y) (zipped_comm f h a b)

pub zipped_assoc : (f : Time → Time → Time) → ((x y z : Time) → f (f x y) z ≡ f x (f y z)) → (a b c : Chart) → zipped f (zipped f a b) c ≡ zipped f a (zipped f b c)
zipped_assoc f h [] b c = refl
zipped_assoc f h (x ∷ a) [] c = refl
zipped_assoc f h (x ∷ a) (y ∷ b) [] = refl
zipped_assoc f h (x ∷ a) (y ∷ b) (z ∷ c) = ap₂ (λ (w : Time) (d : Chart). w ∷ d) (h x y z) (zipped_assoc f h a b c)

pub zipped_self : (f : Time → Time → Time) → ((x : Time) → f x x ≡ x) → (a : Chart) → zipped f a a ≡ a
zipped_self f h [] = refl
zipped_self f h (x ∷ a) = ap₂ (λ (w : Time) (d : Chart). w ∷ d) (h x) (zipped_self f h a)

pub zipped_length : (f : Time → Time → Time) (a b : Chart) → length a ≡ length b → length (zipped f a b) ≡ length a
zipped_length f [] b e = refl
zipped_length f (x ∷ a) [] e = absurd (omega arith)
zipped_length f (x ∷ a) (y ∷ b) e = ap suc (zipped_length f a b (omega arith))

pub zipped_at : (f : Time → Time → Time) (a b : Chart) (k : ℕ) → k < length a → k < length b → get_or (zipped f a b) k None ≡ f (get_or a k None) (get_or b k None)
zipped_at f [] b k h l = absurd (omega arith)
zipped_at f (x ∷ a) [] k h l = absurd (omega arith)
zipped_at f (x ∷ a) (y ∷ b) zero h l = refl
zipped_at f (x ∷ a) (y ∷ b) (suc k) h l = zipped_at f a b k (omega arith) (omega arith)

-- Cheaper

lesser_comm : (x y : Time) → lesser x y ≡ lesser y x
lesser_comm None None = refl
lesser_comm None (Some y) = refl
lesser_comm (Some x) None = refl
lesser_comm (Some x) (Some y) = ap Some (omega arith)

lesser_assoc : (x y z : Time) → lesser (lesser x y) z ≡ lesser x (lesser y z)
lesser_assoc None y z = refl
lesser_assoc (Some x) None z = refl
lesser_assoc (Some x) (Some y) None = refl
lesser_assoc (Some x) (Some y) (Some z) = ap Some (omega arith)

lesser_self : (x : Time) → lesser x x ≡ x
lesser_self None = refl
lesser_self (Some x) = ap Some (omega arith)

pub cheaper_laws : CheaperLaws
cheaper_laws = record {
  commutes = zipped_comm lesser lesser_comm;
  associates = zipped_assoc lesser lesser_assoc;
  idempotent = zipped_self lesser lesser_self;
}

-- Sum

plus_never : (x : Time) → plus x None ≡ None
plus_never None = refl
plus_never (Some x) = refl

plus_comm : (x y : Time) → plus x y ≡ plus y x
plus_comm None None = refl
plus_comm None (Some y) = refl
plus_comm (Some x) None = refl
plus_comm (Some x) (Some y) = ap Some (add_comm x y)

plus_assoc : (x y z : Time) → plus (plus x y) z ≡ plus x (plus y z)
plus_assoc None y z = refl
plus_assoc (Some x) None z = refl
plus_assoc (Some x) (Some y) None = refl
plus_assoc (Some x) (Some y) (Some z) = ap Some (add_assoc x y z)

pub sum_laws : SumLaws
sum_laws = record {
  never_left = λ b. refl;
  never_right = plus_never;
  times = λ a b. refl;
  each = zipped_at plus;
  commutes = zipped_comm plus plus_comm;
  associates = zipped_assoc plus plus_assoc;
}

-- Same

pub same_time_tells : (x y : Time) → Decides (same_time x y) (x ≡ y)
same_time_tells None None = (λ _. refl, λ _. refl)
same_time_tells None (Some y) = (λ e. absurd (grind arith), λ e. absurd (grind arith))
same_time_tells (Some x) None = (λ e. absurd (grind arith), λ e. absurd (grind arith))
same_time_tells (Some x) (Some y) = (λ e. ap Some (eqb-true x y e), λ e. eq-eqb x y (inside e))
  where
    inside : {a b : ℕ} → Some a ≡ Some b → a ≡ b
    inside e = cc

heads : {x y : Time} {a b : Chart} → x ∷ a ≡ y ∷ b → x ≡ y
heads e = cc

tails : {x y : Time} {a b : Chart} → x ∷ a ≡ y ∷ b → a ≡ b
tails e = cc

pub same_is_equal : SameIsEqual
same_is_equal [] [] = (λ _. refl, λ _. refl)
same_is_equal [] (y ∷ b) = (λ e. absurd (grind arith), λ e. absurd (grind arith))
same_is_equal (x ∷ a) [] = (λ e. absurd (grind arith), λ e. absurd (grind arith))
same_is_equal (x ∷ a) (y ∷ b) = (
  λ e. let both = and_parts (same_time x y) (same_chart a b) e in
      ap₂ (λ (w : Time) (d : Chart). w ∷ d) ((same_time_tells x y).0 both.0) ((same_is_equal a b).0 both.1),
  λ e. and_from (same_time x y) (same_chart a b) ((same_time_tells x y).1 (heads e)) ((same_is_equal a b).1 (tails e)),
)

-- Put

pub put_length : (ns : Shape) (v d : ℕ) (c : Chart) → length (put_chart ns v d c) ≡ size ns
put_length ns v d c = tabulated_length ns (λ s. at ns c (set s v d))

pub put_once : PutOnce
put_once ns v d c h l =
    tabulated_as ns _ _ (λ s k. tabulated ns (λ q. at ns c (set q v d)) (set s v d) (set_scene ns s v d k h l) ∙ ap (at ns c) (set-set s v d d))

pub lengths : Lengths
lengths = record {
  dialled_length = λ ns v es. tabulated_length ns (λ s. get_or es (get_or s v 0) None);
  zipped_length = zipped_length;
  put_length = put_length;
}
