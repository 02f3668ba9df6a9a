-- Charts cut into pieces and put together, and charts that are later throughout. Assumes nothing.
use Rattle.std.proofs.Common.{◌≡◌, ℕ, zero, suc, ◌+◌, ◌*◌, min, ◌⊎◌, List, [], ◌∷◌, ◌++◌, map, length, drop, is_some, Some, None, sym, refl, ap, ◌∙◌, subst, inl, inr, suc-mul, arith, length-append}
use mathlib.Core.List.{map-map, map-append}
use Rattle.std.proofs.lemmas.Bool.{both_ways}
use Rattle.std.proofs.lemmas.List.{take_at, drop_at, take-map, drop-map}
use Rattle.std.proofs.lemmas.List.Folds.{flat_map-map}
use Rattle.std.specs.List.{AllByRecursion, flat_map}
use Rattle.model.specs.Charts.{Time, Chart, plus, lesser}
use Rattle.model.specs.Lists.{In}
use Rattle.model.specs.Parts.{least, less, lowered, pieces, parts}
use Rattle.model.specs.Scenes.{size}
use Rattle.parts.specs.Shifts.{later, zeroed}

-- ---- lists

map_same : {A B : Type 0} (f g : A → B) (l : List A) → ((x : A) → f x ≡ g x) → map f l ≡ map g l
map_same f g [] h = refl
map_same f g (x ∷ xs) h = let p = h x in let q = map_same f g xs h in λ i. p i ∷ q i

pub each_same : {A B : Type 0} (f g : A → List B) (l : List A) → ((x : A) → f x ≡ g x) → flat_map f l ≡ flat_map g l
each_same f g [] h = refl
each_same f g (x ∷ xs) h = let p = h x in let q = each_same f g xs h in λ i. p i ++ q i

pub map_each : {A B C : Type 0} (g : B → C) (f : A → List B) (l : List A) → map g (flat_map f l) ≡ flat_map (λ x. map g (f x)) l
map_each g f [] = refl
map_each g f (x ∷ xs) = map-append g (f x) (flat_map f xs) ∙ ap (λ t. map g (f x) ++ t) (map_each g f xs)

pub in_left : {A : Type 0} (x : A) (xs ys : List A) → In x xs → In x (xs ++ ys)
in_left x [] ys i = absurd i
in_left x (z ∷ zs) ys (inl e) = inl e
in_left x (z ∷ zs) ys (inr i) = inr (in_left x zs ys i)

pub in_right : {A : Type 0} (x : A) (xs ys : List A) → In x ys → In x (xs ++ ys)
in_right x [] ys i = i
in_right x (z ∷ zs) ys i = inr (in_right x zs ys i)

pub in_either : {A : Type 0} (x : A) (xs ys : List A) → In x (xs ++ ys) → In x xs ⊎ In x ys
in_either x [] ys i = inr i
in_either x (z ∷ zs) ys (inl e) = inl (inl e)
in_either x (z ∷ zs) ys (inr i) = elim (in_either x zs ys i) [ inl j ↦ inl (inr j) | inr j ↦ inr j ]

-- an element of what some x gives
pub in_each : {A B : Type 0} (f : A → List B) (y : B) (xs : List A) → In y (flat_map f xs) → (x : A) × In x xs × In y (f x)
in_each f y [] i = absurd i
in_each f y (x ∷ xs) i = elim (in_either y (f x) (flat_map f xs) i) [ inl j ↦ (x, inl refl, j) | inr j ↦ (let r = in_each f y xs j in (r.0, inr r.1, r.2)) ]

pub each_in : {A B : Type 0} (f : A → List B) (y : B) (x : A) (xs : List A) → In x xs → In y (f x) → In y (flat_map f xs)
each_in f y x [] i j = absurd i
each_in f y x (z ∷ zs) (inl e) j = in_left y (f z) (flat_map f zs) (subst (λ v. In y (f v)) e j)
each_in f y x (z ∷ zs) (inr i) j = in_right y (f z) (flat_map f zs) (each_in f y x zs i j)

pub all_in : {A : Type 0} (P : A → Type 0) (x : A) (xs : List A) → AllByRecursion P xs → In x xs → P x
all_in P x [] a i = absurd i
all_in P x (y ∷ ys) a (inl e) = subst P (sym e) a.0
all_in P x (y ∷ ys) a (inr i) = all_in P x ys a.1 i

-- ---- pieces

pub pieces_each : {A : Type 0} (f : A → Chart) (m : ℕ) (xs : List A) → AllByRecursion (λ x. length (f x) ≡ m) xs → pieces (length xs) m (flat_map f xs) ≡ map f xs
pieces_each f m [] a = refl
pieces_each f m (x ∷ xs) a =
    let p = take_at (f x) (flat_map f xs) m a.0 in
    let q = ap (pieces (length xs) m) (drop_at (f x) (flat_map f xs) m a.0) ∙ pieces_each f m xs a.1 in
    λ i. p i ∷ q i

pub length_each : {A : Type 0} (f : A → Chart) (m : ℕ) (xs : List A) → AllByRecursion (λ x. length (f x) ≡ m) xs → length (flat_map f xs) ≡ length xs * m
length_each f m [] a = omega arith
length_each f m (x ∷ xs) a = length-append (f x) (flat_map f xs) ∙ omega (arith, a.0, length_each f m xs a.1, suc-mul (length xs) m)

pieces_map : (g : Time → Time) (n m : ℕ) (c : Chart) → pieces n m (map g c) ≡ map (map g) (pieces n m c)
pieces_map g zero m c = refl
pieces_map g (suc n) m c =
    let p = take-map g m c in
    let q = ap (pieces n m) (drop-map g m c) ∙ pieces_map g n m (drop m c) in
    λ i. p i ∷ q i

-- ---- least times

none_some : (x : ℕ) → ◌≡◌ {A = Time} None (Some x) → ⊥
none_some x h = both_ways (is_some {T = ℕ} None) refl (ap is_some h)

pub lesser_none : (x : Time) → lesser x None ≡ x
lesser_none None = refl
lesser_none (Some x) = refl

pub lesser_assoc : (x y z : Time) → lesser (lesser x y) z ≡ lesser x (lesser y z)
lesser_assoc None y z = refl
lesser_assoc (Some x) None z = refl
lesser_assoc (Some x) (Some y) None = refl
lesser_assoc (Some x) (Some y) (Some z) = ap {B = Time} Some (omega arith)

plus_lesser : (w x y : Time) → plus w (lesser x y) ≡ lesser (plus w x) (plus w y)
plus_lesser None x y = refl
plus_lesser (Some w) None y = refl
plus_lesser (Some w) (Some x) None = refl
plus_lesser (Some w) (Some x) (Some y) = ap {B = Time} Some (omega arith)

plus_none : (x : Time) → plus x None ≡ None
plus_none None = refl
plus_none (Some x) = refl

pub least_later : (w : Time) (c : Chart) → least (later w c) ≡ plus w (least c)
least_later w [] = sym (plus_none w)
least_later w (x ∷ xs) = ap (lesser (plus w x)) (least_later w xs) ∙ sym (plus_lesser w x (least xs))

pub least_append : (c d : Chart) → least (c ++ d) ≡ lesser (least c) (least d)
least_append [] d = refl
least_append (x ∷ xs) d = ap (lesser x) (least_append xs d) ∙ sym (lesser_assoc x (least xs) (least d))

lesser_is_none : (x y : Time) → lesser x y ≡ None → (x ≡ None) × (y ≡ None)
lesser_is_none None y h = (refl, h)
lesser_is_none (Some x) None h = absurd (none_some x (sym h))
lesser_is_none (Some x) (Some y) h = absurd (none_some (min x y) (sym h))

-- a chart with no time
all_none : (f : Time → Time) (c : Chart) → f None ≡ None → least c ≡ None → map f c ≡ c
all_none f [] h l = refl
all_none f (x ∷ xs) h l =
    let r = lesser_is_none x (least xs) l in
    let p : f x ≡ x = ap f r.0 ∙ h ∙ sym r.0 in
    let q = all_none f xs h r.1 in
    λ i. p i ∷ q i

less_zero : (y : Time) → less (Some 0) y ≡ y
less_zero None = refl
less_zero (Some y) = ap {B = Time} Some (omega arith)

less_plus : (v m : ℕ) (y : Time) → less (Some (v + m)) (plus (Some v) y) ≡ less (Some m) y
less_plus v m None = refl
less_plus v m (Some y) = ap {B = Time} Some (omega arith)

map_id : (c : Chart) → map (λ x. x) c ≡ c
map_id [] = refl
map_id (x ∷ xs) = ap (λ t. x ∷ t) (map_id xs)

pub lowered_later : (v : ℕ) (c : Chart) → lowered (later (Some v) c) ≡ lowered c
lowered_later v c = ap (λ m. map (less m) (later (Some v) c)) (least_later (Some v) c) ∙ map-map (less (plus (Some v) (least c))) (plus (Some v)) c ∙ go (least c) refl
  where
    go : (m : Time) → least c ≡ m → map (λ y. less (plus (Some v) m) (plus (Some v) y)) c ≡ map (less m) c
    go None h = all_none (λ y. less None (plus (Some v) y)) c refl h ∙ sym (map_id c)
    go (Some m) h = map_same (λ y. less (Some (v + m)) (plus (Some v) y)) (less (Some m)) c (less_plus v m)

-- a chart whose least time is 0, or that has none, is lowered
pub lowered_zeroed : (w : Time) (c : Chart) → zeroed w ≡ least c → lowered c ≡ c
lowered_zeroed None c h = ap (λ m. map (less m) c) (sym h) ∙ map_id c
lowered_zeroed (Some w) c h = ap (λ m. map (less m) c) (sym h) ∙ map_same (less (Some 0)) (λ y. y) c less_zero ∙ map_id c

pub lowered_back : (w : Time) (c : Chart) → zeroed w ≡ least c → lowered (later w c) ≡ c
lowered_back None c h = ap lowered (all_none (plus None) c refl (sym h)) ∙ lowered_zeroed None c h
lowered_back (Some v) c h = lowered_later v c ∙ lowered_zeroed (Some v) c h

-- ---- the parts of a later chart

pub parts_later : (ss : List ℕ) (k v : ℕ) (c : Chart) → parts ss k (later (Some v) c) ≡ parts ss k c
parts_later [] k v c = refl
parts_later (s ∷ ss) k v c =
    let p = lowered_later v c in
    let q : flat_map (parts ss (k + 1)) (pieces s (size ss) (later (Some v) c)) ≡ flat_map (parts ss (k + 1)) (pieces s (size ss) c) =
    ap (flat_map (parts ss (k + 1))) (pieces_map (plus (Some v)) s (size ss) c) ∙ flat_map-map (parts ss (k + 1)) (later (Some v)) (pieces s (size ss) c) ∙ each_same (λ d. parts ss (k + 1) (later (Some v) d)) (parts ss (k + 1)) (pieces s (size ss) c) (parts_later ss (k + 1) v) in
    λ i. record { fixed = k; chart = p i } ∷ q i

pub parts_back : (ss : List ℕ) (k : ℕ) (w : Time) (c : Chart) → zeroed w ≡ least c → parts ss k (later w c) ≡ parts ss k c
parts_back ss k None c h = ap (parts ss k) (all_none (plus None) c refl (sym h))
parts_back ss k (Some v) c h = parts_later ss k v c

-- the parts of a chart put together of pieces
pub parts_each : {A : Type 0} (f : A → Chart) (s : ℕ) (ss : List ℕ) (k : ℕ) (w : Time) (xs : List A) → length xs ≡ s → AllByRecursion (λ x. length (f x) ≡ size ss) xs → zeroed w ≡ least (flat_map f xs) → parts (s ∷ ss) k (later w (flat_map f xs)) ≡ record { fixed = k; chart = flat_map f xs } ∷ flat_map (λ x. parts ss (k + 1) (f x)) xs
parts_each f s ss k w xs n a h =
    let p = lowered_zeroed w (flat_map f xs) h in
    let q : flat_map (parts ss (k + 1)) (pieces s (size ss) (flat_map f xs)) ≡ flat_map (λ x. parts ss (k + 1) (f x)) xs =
    ap (λ t. flat_map (parts ss (k + 1)) (pieces t (size ss) (flat_map f xs))) (sym n) ∙ ap (flat_map (parts ss (k + 1))) (pieces_each f (size ss) xs a) ∙ flat_map-map (parts ss (k + 1)) f xs in
    parts_back (s ∷ ss) k w (flat_map f xs) h ∙ (λ i. record { fixed = k; chart = p i } ∷ q i)
