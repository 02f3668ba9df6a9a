-- Charts that are made of a function of scenes, device by device. Assumes nothing.
use Rattle.std.proofs.Common.{◌≡◌, ℕ, zero, suc, ◌+◌, ◌*◌, ◌<◌, ◌≤◌, List, [], ◌∷◌, ◌++◌, map, length, get_or, drop, set, Some, None, sym, refl, ap, ◌∙◌, suc-mul, arith}
use mathlib.Core.List.{map-map}
use Rattle.std.specs.List.{range_with_len, flat_map}
use Rattle.std.proofs.lemmas.List.{get_or-take, get_or-drop}
use Rattle.model.specs.Charts.{Time, Chart, at, plus, dialled, put_chart}
use Rattle.model.specs.Parts.{pieces}
use Rattle.model.specs.Scenes.{Shape, Scene, scenes, size, rank}
use Rattle.model.proofs.Ranks.{rank_less, set_scene, tabulated_as, tabulated_self}
use Rattle.parts.specs.Shifts.{later}
use Rattle.parts.proofs.Pieces.{map_each, each_same}

-- a chart over one device more: a chart for each of its settings
pub tabulated_split : (n : ℕ) (ns : Shape) (f : Scene → Time) → map f (scenes (n ∷ ns)) ≡ flat_map (λ x. map (λ s. f (x ∷ s)) (scenes ns)) (range_with_len 0 n)
tabulated_split n ns f =
    map_each f (λ x. map (λ xs. x ∷ xs) (scenes ns)) (range_with_len 0 n)
    ∙ each_same (λ x. map f (map (λ xs. x ∷ xs) (scenes ns))) (λ x. map (λ s. f (x ∷ s)) (scenes ns)) (range_with_len 0 n) (λ x. map-map f (λ xs. x ∷ xs) (scenes ns))

pub joined_counting : {A : Type 0} (f g : ℕ → List A) (a n : ℕ) → ((x : ℕ) → a ≤ x → x < a + n → f x ≡ g x) → flat_map f (range_with_len a n) ≡ flat_map g (range_with_len a n)
joined_counting f g a zero h = refl
joined_counting f g a (suc n) h =
    let p = h a (omega arith) (omega arith) in
    let q = joined_counting f g (a + 1) n (λ x u v. h x (omega arith) (omega arith)) in
    λ i. p i ++ q i

-- an entry by its piece
pub at_piece : (n m x r : ℕ) (c : Chart) → x < n → r < m → get_or c (x * m + r) None ≡ get_or (get_or (pieces n m c) x []) r None
at_piece zero m x r c h k = absurd (omega arith)
at_piece (suc n) m zero r c h k = ap (λ i. get_or c i None) (let z : 0 * m + r ≡ r = omega arith in z) ∙ sym (get_or-take m c r None k)
at_piece (suc n) m (suc x) r c h k = ap (λ i. get_or c i None) (let z : suc x * m + r ≡ m + (x * m + r) = omega (arith, suc-mul x m) in z) ∙ sym (get_or-drop m c (x * m + r) None) ∙ at_piece n m x r (drop m c) (omega arith) k

-- a dial over one device more
pub dialled_here : (n : ℕ) (ns : Shape) (es : List Time) → dialled (n ∷ ns) 0 es ≡ flat_map (λ x. map (λ _. get_or es x None) (scenes ns)) (range_with_len 0 n)
dialled_here n ns es = tabulated_split n ns (λ s. get_or es (get_or s 0 0) None)

pub dialled_below : (n v : ℕ) (ns : Shape) (es : List Time) → dialled (n ∷ ns) (suc v) es ≡ flat_map (λ _. dialled ns v es) (range_with_len 0 n)
dialled_below n v ns es = tabulated_split n ns (λ s. get_or es (get_or s (suc v) 0) None)

-- a put over one device more
pub put_here : (n d : ℕ) (ns : Shape) (c : Chart) → d < n → length (get_or (pieces n (size ns) c) d []) ≡ size ns → put_chart (n ∷ ns) 0 d c ≡ flat_map (λ _. get_or (pieces n (size ns) c) d []) (range_with_len 0 n)
put_here n d ns c dl long =
    let p = get_or (pieces n (size ns) c) d [] in
    tabulated_split n ns (λ s. at (n ∷ ns) c (set s 0 d))
    ∙ each_same (λ x. map (λ s. at (n ∷ ns) c (d ∷ s)) (scenes ns)) (λ _. p) (range_with_len 0 n)
    (λ x. tabulated_as ns (λ s. at (n ∷ ns) c (d ∷ s)) (at ns p) (λ s h. at_piece n (size ns) d (rank ns s) c dl (rank_less ns s h)) ∙ tabulated_self ns p long)

pub put_below : (n v d : ℕ) (ns : Shape) (c : Chart) → v < length ns → d < get_or ns v 0 → put_chart (n ∷ ns) (suc v) d c ≡ flat_map (λ x. put_chart ns v d (get_or (pieces n (size ns) c) x [])) (range_with_len 0 n)
put_below n v d ns c vl dl =
    tabulated_split n ns (λ s. at (n ∷ ns) c (set s (suc v) d))
    ∙ joined_counting (λ x. map (λ s. at (n ∷ ns) c (x ∷ set s v d)) (scenes ns)) (λ x. put_chart ns v d (get_or (pieces n (size ns) c) x [])) 0 n
    (λ x u xl. tabulated_as ns (λ s. at (n ∷ ns) c (x ∷ set s v d)) (λ s. at ns (get_or (pieces n (size ns) c) x []) (set s v d))
    (λ s h. at_piece n (size ns) x (rank ns (set s v d)) c (omega arith) (rank_less ns (set s v d) (set_scene ns s v d h vl dl))))

-- a put of a chart that is later
pub get_or_later : (w : Time) (c : Chart) (k : ℕ) → plus w None ≡ None → get_or (later w c) k None ≡ plus w (get_or c k None)
get_or_later w [] k h = sym h
get_or_later w (x ∷ c) zero h = refl
get_or_later w (x ∷ c) (suc k) h = get_or_later w c k h

plus_none : (w : Time) → plus w None ≡ None
plus_none None = refl
plus_none (Some w) = refl

pub put_later : (ns : Shape) (v d : ℕ) (w : Time) (c : Chart) → put_chart ns v d (later w c) ≡ later w (put_chart ns v d c)
put_later ns v d w c =
    tabulated_as ns (λ s. at ns (later w c) (set s v d)) (λ s. plus w (at ns c (set s v d))) (λ s h. get_or_later w c (rank ns (set s v d)) (plus_none w))
    ∙ sym (map-map (plus w) (λ s. at ns c (set s v d)) (scenes ns))

-- a chart without times stays as it is
pub put_never : (ns : Shape) (v d : ℕ) (c : Chart) → length c ≡ size ns → put_chart ns v d (later None c) ≡ later None c
put_never ns v d c h =
    tabulated_as ns (λ s. at ns (later None c) (set s v d)) (at ns (later None c)) (λ s k. get_or_later None c (rank ns (set s v d)) refl ∙ sym (get_or_later None c (rank ns s) refl))
    ∙ tabulated_self ns (later None c) (lib.ListN.length-map c (plus None) ∙ h)
