-- The greatest times of charts, and what is late. Assumes nothing.
use Rattle.std.proofs.Common.{◌≡◌, ℕ, zero, suc, ◌<◌, Bool, true, false, ◌||◌, List, [], ◌∷◌, map, length, get_or, take, set, Some, None, refl, ap, ◌∙◌, subst, arith}
use Rattle.std.specs.List.{AllByRecursion}
use Rattle.std.proofs.lemmas.List.{get_or-take}
use Rattle.std.proofs.ByRecursion.{All-weaker}
use Rattle.std.proofs.lemmas.Bool.{ltb-false, le-ltb}
use Rattle.std.proofs.lemmas.Bool.Decides.{nat_tests}
use Rattle.model.specs.Limits.{greatest_time}
use Rattle.model.specs.Lists.{some}
use Rattle.model.specs.Scenes.{Shape, SceneOf, scenes}
use Rattle.model.specs.Charts.{Time, Chart, at, lesser, greater, plus, zipped, dialled, put_chart, greatest, late}
use Rattle.model.specs.ChartLaws.{Latest, NoLater}
use Rattle.model.proofs.Ranks.{all_scenes, setting_less}

-- Orders of times

no_later_self : (a : Time) → NoLater a a
no_later_self None = tt
no_later_self (Some a) = omega arith

no_later_trans : (a b c : Time) → NoLater a b → NoLater b c → NoLater a c
no_later_trans None b c h k = tt
no_later_trans (Some a) None c h k = absurd h
no_later_trans (Some a) (Some b) None h k = absurd k
no_later_trans (Some a) (Some b) (Some c) h k = omega arith

greater_left : (a b : Time) → NoLater a (greater a b)
greater_left None b = tt
greater_left (Some a) None = omega arith
greater_left (Some a) (Some b) = omega arith

greater_right : (a b : Time) → NoLater b (greater a b)
greater_right None b = no_later_self b
greater_right (Some a) None = tt
greater_right (Some a) (Some b) = omega arith

greater_both : (a b c : Time) → NoLater a c → NoLater b c → NoLater (greater a b) c
greater_both None b c h k = k
greater_both (Some a) None c h k = h
greater_both (Some a) (Some b) None h k = absurd h
greater_both (Some a) (Some b) (Some c) h k = omega arith

pub greater_assoc : (a b c : Time) → greater (greater a b) c ≡ greater a (greater b c)
greater_assoc None b c = refl
greater_assoc (Some a) None c = refl
greater_assoc (Some a) (Some b) None = refl
greater_assoc (Some a) (Some b) (Some c) = ap Some (omega arith)

plus_up : (a b c d : Time) → NoLater a c → NoLater b d → NoLater (plus a b) (plus c d)
plus_up None b c d h k = tt
plus_up (Some a) None c d h k = tt
plus_up (Some a) (Some b) None d h k = absurd h
plus_up (Some a) (Some b) (Some c) None h k = absurd k
plus_up (Some a) (Some b) (Some c) (Some d) h k = omega arith

lesser_under : (a b : Time) → NoLater (lesser a b) (greater a b)
lesser_under None b = no_later_self b
lesser_under (Some a) None = omega arith
lesser_under (Some a) (Some b) = omega arith

greater_up : (a b c d : Time) → NoLater a c → NoLater b d → NoLater (greater a b) (greater c d)
greater_up a b c d h k =
    greater_both a b (greater c d) (no_later_trans a c (greater c d) h (greater_left c d)) (no_later_trans b d (greater c d) k (greater_right c d))

-- The greatest time

-- no entry is later than the greatest
pub entry_under : (c : Chart) (k : ℕ) → NoLater (get_or c k None) (greatest c)
entry_under [] k = tt
entry_under (x ∷ c) zero = greater_left x (greatest c)
entry_under (x ∷ c) (suc k) = no_later_trans (get_or c k None) (greatest c) (greater x (greatest c)) (entry_under c k) (greater_right x (greatest c))

-- what is over each entry is over the greatest
pub over_each : {X : Type 0} (f : X → Time) (b : Time) (xs : List X) → AllByRecursion (λ x. NoLater (f x) b) xs → NoLater (greatest (map f xs)) b
over_each f b [] h = tt
over_each f b (x ∷ xs) h = greater_both (f x) (greatest (map f xs)) b h.0 (over_each f b xs h.1)

all_true : {X : Type 0} (P : X → Type 0) → ((x : X) → P x) → (xs : List X) → AllByRecursion P xs
all_true P h [] = tt
all_true P h (x ∷ xs) = (h x, all_true P h xs)

of_dialled : (ns : Shape) (v : ℕ) (es : List Time) → v < length ns → NoLater (greatest (dialled ns v es)) (greatest (take (get_or ns v 0) es))
of_dialled ns v es h =
    over_each (λ s. get_or es (get_or s v 0) None) (greatest (take (get_or ns v 0) es)) (scenes ns)
    (All-weaker (SceneOf ns) (λ s. NoLater (get_or es (get_or s v 0) None) (greatest (take (get_or ns v 0) es)))
    (λ s l. subst (λ (t : Time). NoLater t (greatest (take (get_or ns v 0) es))) (get_or-take (get_or ns v 0) es (get_or s v 0) None (setting_less ns s v l h)) (entry_under (take (get_or ns v 0) es) (get_or s v 0)))
    (scenes ns) (all_scenes ns))

of_put : (ns : Shape) (v d : ℕ) (c : Chart) → NoLater (greatest (put_chart ns v d c)) (greatest c)
of_put ns v d c = over_each (λ s. at ns c (set s v d)) (greatest c) (scenes ns) (all_true (λ s. NoLater (at ns c (set s v d)) (greatest c)) (λ s. entry_under c _) (scenes ns))

of_cheaper : (a b : Chart) → NoLater (greatest (zipped lesser a b)) (greater (greatest a) (greatest b))
of_cheaper [] b = tt
of_cheaper (x ∷ a) [] = tt
of_cheaper (x ∷ a) (y ∷ b) =
    let u = greater (greater x (greatest a)) (greater y (greatest b)) in
    greater_both (lesser x y) (greatest (zipped lesser a b)) u
    (no_later_trans (lesser x y) (greater x y) u (lesser_under x y) (greater_up x y (greater x (greatest a)) (greater y (greatest b)) (greater_left x (greatest a)) (greater_left y (greatest b))))
    (no_later_trans (greatest (zipped lesser a b)) (greater (greatest a) (greatest b)) u (of_cheaper a b) (greater_up (greatest a) (greatest b) (greater x (greatest a)) (greater y (greatest b)) (greater_right x (greatest a)) (greater_right y (greatest b))))

of_sum : (a b : Chart) → NoLater (greatest (zipped plus a b)) (plus (greatest a) (greatest b))
of_sum [] b = tt
of_sum (x ∷ a) [] = tt
of_sum (x ∷ a) (y ∷ b) =
    let u = plus (greater x (greatest a)) (greater y (greatest b)) in
    greater_both (plus x y) (greatest (zipped plus a b)) u
    (plus_up x y (greater x (greatest a)) (greater y (greatest b)) (greater_left x (greatest a)) (greater_left y (greatest b)))
    (no_later_trans (greatest (zipped plus a b)) (plus (greatest a) (greatest b)) u (of_sum a b) (plus_up (greatest a) (greatest b) (greater x (greatest a)) (greater y (greatest b)) (greater_right x (greatest a)) (greater_right y (greatest b))))

-- Late

late_greater : (a b : Time) → (late a || late b) ≡ late (greater a b)
late_greater None b = refl
late_greater (Some a) None = or_no (late (Some a))
  where
    or_no : (b : Bool) → (b || false) ≡ b
    or_no true = refl
    or_no false = refl
late_greater (Some a) (Some b) = grind (arith, nat_tests)

pub late_tells : (c : Chart) → some late c ≡ late (greatest c)
late_tells [] = refl
late_tells (x ∷ c) = ap (λ t. late x || t) (late_tells c) ∙ late_greater x (greatest c)

pub late_falls : (a b : Time) → NoLater a b → late b ≡ false → late a ≡ false
late_falls None b h k = refl
late_falls (Some a) None h k = absurd h
late_falls (Some a) (Some b) h k = le-ltb greatest_time a (omega (arith, ltb-false greatest_time b k))

pub latest : Latest
latest = record {
  tells = late_tells;
  falls = late_falls;
  of_dialled = of_dialled;
  of_cheaper = of_cheaper;
  of_sum = of_sum;
  of_put = of_put;
}

-- a chart that is no later than a legal time is legal
pub legal_under : (c : Chart) (b : Time) → NoLater (greatest c) b → late b ≡ false → some late c ≡ false
legal_under c b h k = late_tells c ∙ late_falls (greatest c) b h k
