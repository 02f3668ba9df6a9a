-- Scenes, their order and their places. Assumes nothing.
use Rattle.std.proofs.Common.{◌≡◌, ℕ, zero, suc, ◌+◌, ◌*◌, ◌%◌, ◌<◌, ◌≤◌, false, not, eqb, leb, List, [], ◌∷◌, map, length, get_or, drop, set, None, sym, refl, ap, ◌∙◌, mul-le-mul_right, mod-lt, div-lt_iff_lt-mul, arith}
use Rattle.std.specs.List.{range_with_len, flat_map, AllByRecursion}
use Rattle.std.proofs.lemmas.List.{length-append, length-map, get_or_append_left, get_or-append-add, get_or-map, ext_get_or}
use Rattle.std.proofs.ByRecursion.{All-append, All-map, All-weaker}
use Rattle.std.proofs.lemmas.Bool.{leb-false, lt-leb, eqb-true, not-false, or_parts, or_from}
use Rattle.model.specs.Lists.{some_two}
use Rattle.model.specs.Scenes.{Shape, Scene, SceneOf, size, scenes, rank}
use Rattle.model.specs.Charts.{Time, Chart, at}
use Rattle.model.specs.Ranks.{Counted, Tabulated, unrank}

-- How many scenes there are

-- the scenes that begin with a setting from a up to a + m - 1
abbrev pub rows : Shape → ℕ → ℕ → List Scene
rows ns a m = flat_map (λ x. map (λ xs. x ∷ xs) (scenes ns)) (range_with_len a m)

count : (ns : Shape) → length (scenes ns) ≡ size ns → (a m : ℕ) → length (rows ns a m) ≡ m * size ns
count ns h a zero = omega arith
count ns h a (suc m) = length-append (map (λ xs. a ∷ xs) (scenes ns)) _ ∙ omega (arith, count ns h (a + 1) m, length-map (scenes ns) (λ xs. a ∷ xs), h)

pub counted : Counted
counted [] = refl
counted (n ∷ ns) = count ns (counted ns) 0 n

-- a chart that is made of a function is as long as there are scenes
pub tabulated_length : (ns : Shape) (f : Scene → Time) → length (map f (scenes ns)) ≡ size ns
tabulated_length ns f = length-map (scenes ns) f ∙ counted ns

-- The place of a scene

pub rank_less : (ns : Shape) (s : Scene) → SceneOf ns s → rank ns s < size ns
rank_less [] [] h = omega arith
rank_less [] (x ∷ xs) h = absurd h
rank_less (n ∷ ns) [] h = absurd h
rank_less (n ∷ ns) (x ∷ xs) h = omega (arith, rank_less ns xs h.1, mul-le-mul_right (size ns) h.0)

cell : (ns : Shape) (a m x : ℕ) (s : Scene) → x < m → rank ns s < size ns → get_or (scenes ns) (rank ns s) [] ≡ s → get_or (rows ns a m) (x * size ns + rank ns s) [] ≡ (a + x) ∷ s
cell ns a zero x s h r e = absurd (omega arith)
cell ns a (suc m) zero s h r e =
    let first : Scene → Scene = λ xs. a ∷ xs in
    let inside : rank ns s < length (scenes ns) = omega (arith, counted ns) in
    let start : 0 * size ns + rank ns s ≡ rank ns s = omega arith in
    let same : a ≡ a + 0 = omega arith in
    ap (λ i. get_or (rows ns a (suc m)) i []) start ∙ get_or_append_left (map first (scenes ns)) (rows ns (a + 1) m) [] (rank ns s) (omega (arith, length-map (scenes ns) first))
    ∙ get_or-map first (scenes ns) (rank ns s) [] [] inside ∙ (λ i. same i ∷ e i)
cell ns a (suc m) (suc x) s h r e =
    let first : Scene → Scene = λ xs. a ∷ xs in
    let start : suc x * size ns + rank ns s ≡ length (map first (scenes ns)) + (x * size ns + rank ns s) = omega (arith, length-map (scenes ns) first, counted ns) in
    let same : a + 1 + x ≡ a + suc x = omega arith in
    ap (λ i. get_or (rows ns a (suc m)) i []) start ∙ get_or-append-add (map first (scenes ns)) (rows ns (a + 1) m) (x * size ns + rank ns s) []
    ∙ cell ns (a + 1) m x s (omega arith) r e ∙ ap (λ y. y ∷ s) same

pub placed : (ns : Shape) (s : Scene) → SceneOf ns s → get_or (scenes ns) (rank ns s) [] ≡ s
placed [] [] h = refl
placed [] (x ∷ xs) h = absurd h
placed (n ∷ ns) [] h = absurd h
placed (n ∷ ns) (x ∷ xs) h =
    let same : 0 + x ≡ x = omega arith in
    cell ns 0 n x xs h.0 (rank_less ns xs h.1) (placed ns xs h.1) ∙ ap (λ y. y ∷ xs) same

pub tabulated : Tabulated
tabulated ns f s h = get_or-map f (scenes ns) (rank ns s) [] None (omega (arith, counted ns, rank_less ns s h)) ∙ ap f (placed ns s h)

-- two scenes at one place are one scene
pub rank_one : (ns : Shape) (s q : Scene) → SceneOf ns s → SceneOf ns q → rank ns s ≡ rank ns q → s ≡ q
rank_one ns s q l k e = sym (placed ns s l) ∙ ap (λ i. get_or (scenes ns) i []) e ∙ placed ns q k

-- The scene at a place

some_size : (n m k : ℕ) → k < n * m → 0 < m
some_size n zero k h = absurd (omega arith)
some_size n (suc m) k h = omega arith

pub unrank_scene : (ns : Shape) (k : ℕ) → k < size ns → SceneOf ns (unrank ns k)
unrank_scene [] k h = tt
unrank_scene (n ∷ ns) k h =
    let more = some_size n (size ns) k h in
    ((div-lt_iff_lt-mul more).1 h, unrank_scene ns (k % size ns) (mod-lt k more))

pub rank_unrank : (ns : Shape) (k : ℕ) → k < size ns → rank ns (unrank ns k) ≡ k
rank_unrank [] k h = omega arith
rank_unrank (n ∷ ns) k h =
    let more = some_size n (size ns) k h in
    let old = rank_unrank ns (k % size ns) (mod-lt k more) in
    omega arith

all_rows : (n : ℕ) (ns : Shape) → AllByRecursion (SceneOf ns) (scenes ns) → (a m : ℕ) → a + m ≤ n → AllByRecursion (SceneOf (n ∷ ns)) (rows ns a m)
all_rows n ns h a zero le = tt
all_rows n ns h a (suc m) le =
    All-append (SceneOf (n ∷ ns)) (map (λ xs. a ∷ xs) (scenes ns)) (rows ns (a + 1) m)
    (All-map (SceneOf (n ∷ ns)) (λ xs. a ∷ xs) (scenes ns) (All-weaker (SceneOf ns) (λ xs. SceneOf (n ∷ ns) (a ∷ xs)) (λ xs l. (omega arith, l)) (scenes ns) h))
    (all_rows n ns h (a + 1) m (omega arith))

-- each of the scenes is a scene of the shape
pub all_scenes : (ns : Shape) → AllByRecursion (SceneOf ns) (scenes ns)
all_scenes [] = (tt, tt)
all_scenes (n ∷ ns) = all_rows n ns (all_scenes ns) 0 n (omega arith)

-- Charts scene by scene

-- two charts with an entry for each scene, that agree at each scene, are equal
pub same_charts : (ns : Shape) (c d : Chart) → length c ≡ size ns → length d ≡ size ns → ((s : Scene) → SceneOf ns s → at ns c s ≡ at ns d s) → c ≡ d
same_charts ns c d hc hd h =
    ext_get_or None c d (hc ∙ sym hd) (λ i lt.
    let less : i < size ns = omega arith in
    let place = rank_unrank ns i less in
    ap (λ k. get_or c k None) (sym place) ∙ h (unrank ns i) (unrank_scene ns i less) ∙ ap (λ k. get_or d k None) place)

-- so are two that are made of functions that agree at each scene
pub tabulated_as : (ns : Shape) (f g : Scene → Time) → ((s : Scene) → SceneOf ns s → f s ≡ g s) → map f (scenes ns) ≡ map g (scenes ns)
tabulated_as ns f g h =
    same_charts ns _ _ (tabulated_length ns f) (tabulated_length ns g) (λ s l. tabulated ns f s l ∙ h s l ∙ sym (tabulated ns g s l))

-- a chart is made of what it has at each scene
pub tabulated_self : (ns : Shape) (c : Chart) → length c ≡ size ns → map (at ns c) (scenes ns) ≡ c
tabulated_self ns c h = same_charts ns _ _ (tabulated_length ns (at ns c)) h (λ s l. tabulated ns (at ns c) s l)

-- The settings of a scene

pub scene_length : (ns : Shape) (s : Scene) → SceneOf ns s → length s ≡ length ns
scene_length [] [] h = refl
scene_length [] (x ∷ xs) h = absurd h
scene_length (n ∷ ns) [] h = absurd h
scene_length (n ∷ ns) (x ∷ xs) h = ap suc (scene_length ns xs h.1)

-- each setting is below its device's count
pub setting_less : (ns : Shape) (s : Scene) (v : ℕ) → SceneOf ns s → v < length ns → get_or s v 0 < get_or ns v 0
setting_less [] s v l h = absurd (omega arith)
setting_less (n ∷ ns) [] v l h = absurd l
setting_less (n ∷ ns) (x ∷ xs) zero l h = l.0
setting_less (n ∷ ns) (x ∷ xs) (suc v) l h = setting_less ns xs v l.1 (omega arith)

pub set_scene : (ns : Shape) (s : Scene) (v d : ℕ) → SceneOf ns s → v < length ns → d < get_or ns v 0 → SceneOf ns (set s v d)
set_scene [] s v d l h k = absurd (omega arith)
set_scene (n ∷ ns) [] v d l h k = absurd l
set_scene (n ∷ ns) (x ∷ xs) zero d l h k = (k, l.1)
set_scene (n ∷ ns) (x ∷ xs) (suc v) d l h k = (l.0, set_scene ns xs v d l.1 (omega arith) k)

-- the place after a change of one setting
pub rank_set : (ns : Shape) (s : Scene) (v d : ℕ) → SceneOf ns s → v < length ns →
    rank ns (set s v d) + get_or s v 0 * size (drop (suc v) ns) ≡ rank ns s + d * size (drop (suc v) ns)
rank_set [] s v d l h = absurd (omega arith)
rank_set (n ∷ ns) [] v d l h = absurd l
rank_set (n ∷ ns) (y ∷ ys) zero d l h = omega arith
rank_set (n ∷ ns) (y ∷ ys) (suc v) d l h = omega (arith, rank_set ns ys v d l.1 (omega arith))

-- The tests of an opening: as many settings as devices, and no setting too high

pub tested_scene : (ns : Shape) (s : Scene) → length s ≡ length ns → some_two leb ns s ≡ false → SceneOf ns s
tested_scene [] [] e h = tt
tested_scene [] (x ∷ xs) e h = absurd (omega arith)
tested_scene (n ∷ ns) [] e h = absurd (omega arith)
tested_scene (n ∷ ns) (x ∷ xs) e h =
    let both = or_parts (leb n x) (some_two leb ns xs) h in
    (leb-false n x both.0, tested_scene ns xs (omega arith) both.1)

pub tests_scene : (ns : Shape) (s : Scene) → not (eqb (length s) (length ns)) ≡ false → some_two leb ns s ≡ false → SceneOf ns s
tests_scene ns s e h = tested_scene ns s (eqb-true (length s) (length ns) (not-false _ e)) h

pub scene_within : (ns : Shape) (s : Scene) → SceneOf ns s → some_two leb ns s ≡ false
scene_within [] s l = refl
scene_within (n ∷ ns) [] l = absurd l
scene_within (n ∷ ns) (x ∷ xs) l = or_from (leb n x) (some_two leb ns xs) (lt-leb n x l.0) (scene_within ns xs l.1)

-- For loops over a shape and a scene

pub scene_drop : (i : ℕ) (ns : Shape) (s : Scene) → SceneOf ns s → SceneOf (drop i ns) (drop i s)
scene_drop zero ns s h = h
scene_drop (suc i) [] [] h = tt
scene_drop (suc i) [] (x ∷ xs) h = absurd h
scene_drop (suc i) (n ∷ ns) [] h = absurd h
scene_drop (suc i) (n ∷ ns) (x ∷ xs) h = scene_drop i ns xs h.1
