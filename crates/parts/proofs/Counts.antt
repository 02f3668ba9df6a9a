-- Lists with no element twice, and how many different elements a list has. Assumes nothing.
use Rattle.std.proofs.Common.{◌≡◌, ℕ, zero, suc, ◌+◌, ◌<◌, ◌≤◌, Bool, true, false, cond, ◌&&◌, ◌||◌, eqb, ◌⊎◌, List, [], ◌∷◌, length, Some, None, sym, refl, ap, ◌∙◌, subst, inl, inr, arith}
use Rattle.std.proofs.lemmas.Bool.{both_ways, cases_eq, eqb-true, eq-eqb}
use Rattle.model.specs.Charts.{Time, Chart, same_time, same_chart}
use Rattle.model.specs.Lists.{In, some}
use Rattle.model.specs.Parts.{same_part, different}

-- x is in the list, by a test
abbrev has : {A : Type 0} → (A → A → Bool) → A → List A → Bool
has same x xs = some (same x) xs

-- each element once, by a test
abbrev once : {A : Type 0} → (A → A → Bool) → List A → List A
once same [] = []
once same (x ∷ xs) = cond (has same x xs) (once same xs) (x ∷ once same xs)

once_length : {A : Type 0} (same : A → A → Bool) (xs : List A) → length (once same xs) ≡ different same xs
once_length same [] = refl
once_length same (x ∷ xs) = go (has same x xs) (once_length same xs)
  where
    go : (b : Bool) → length (once same xs) ≡ different same xs → length (cond b (once same xs) (x ∷ once same xs)) ≡ cond b (different same xs) (different same xs + 1)
    go true h = h
    go false h = omega arith

-- no element twice
abbrev pub Distinct : {A : Type 0} → List A → Type 0
Distinct [] = Unit {0}
Distinct (x ∷ xs) = (In x xs → ⊥) × Distinct xs

-- the list without the element at a place
abbrev pub without : {A : Type 0} (x : A) (ys : List A) → In x ys → List A
without x [] i = []
without x (y ∷ ys) (inl e) = ys
without x (y ∷ ys) (inr i) = y ∷ without x ys i

without_length : {A : Type 0} (x : A) (ys : List A) (i : In x ys) → length ys ≡ suc (length (without x ys i))
without_length x [] i = absurd i
without_length x (y ∷ ys) (inl e) = refl
without_length x (y ∷ ys) (inr i) = ap suc (without_length x ys i)

without_in : {A : Type 0} (x z : A) (ys : List A) (i : In x ys) → In z ys → (z ≡ x → ⊥) → In z (without x ys i)
without_in x z [] i j n = j
without_in x z (y ∷ ys) (inl e) (inl f) n = absurd (n (f ∙ sym e))
without_in x z (y ∷ ys) (inl e) (inr j) n = j
without_in x z (y ∷ ys) (inr i) (inl f) n = inl f
without_in x z (y ∷ ys) (inr i) (inr j) n = inr (without_in x z ys i j n)

pub in_cast : {A : Type 0} (x z : A) (ys : List A) → z ≡ x → In x ys → In z ys
in_cast x z ys e i = subst (λ v. In v ys) (sym e) i

-- a list with no element twice, all of them in another, is no longer
pub fits : {A : Type 0} (xs ys : List A) → Distinct xs → ((x : _) → In x xs → In x ys) → length xs ≤ length ys
fits [] ys d f = omega arith
fits (x ∷ xs) ys d f =
    let i = f x (inl refl) in
    let r = fits xs (without x ys i) d.1 (λ z j. without_in x z ys i (f z (inr j)) (λ e. d.0 (in_cast z x xs (sym e) j))) in
    let w = without_length x ys i in
    omega arith

-- a test that tells equal from different
pub record Lawful {A : Type 0} (same : A → A → Bool) : Type 0 where
  pub right : (x y : A) → same x y ≡ true → x ≡ y
  pub full : (x : A) → same x x ≡ true

or_cases : (a b : Bool) → (a || b) ≡ true → (a ≡ true) ⊎ (b ≡ true)
or_cases true b h = inl refl
or_cases false b h = inr h

or_right : (a b : Bool) → b ≡ true → (a || b) ≡ true
or_right true b h = refl
or_right false b h = h

or_left : (a b : Bool) → a ≡ true → (a || b) ≡ true
or_left true b h = refl
or_left false b h = absurd (both_ways false refl h)

module _ {A : Type 0} (same : A → A → Bool) (law : Lawful same) where
  has_in : (x : A) (xs : List A) → has same x xs ≡ true → In x xs
  has_in x [] h = absurd (both_ways false refl h)
  has_in x (y ∷ ys) h = elim (or_cases (same x y) (has same x ys) h) [ inl e ↦ inl (law.right x y e) | inr e ↦ inr (has_in x ys e) ]

  in_has : (x : A) (xs : List A) → In x xs → has same x xs ≡ true
  in_has x [] i = absurd i
  in_has x (y ∷ ys) (inl e) = or_left (same x y) (has same x ys) (subst (λ v. same x v ≡ true) e (law.full x))
  in_has x (y ∷ ys) (inr i) = or_right (same x y) (has same x ys) (in_has x ys i)

  in_once : (x : A) (xs : List A) → In x xs → In x (once same xs)
  in_once x [] i = i
  in_once x (y ∷ ys) i = go (has same y ys) refl (in_once x ys) i
    where
      go : (b : Bool) → has same y ys ≡ b → (In x ys → In x (once same ys)) → In x (y ∷ ys) → In x (cond b (once same ys) (y ∷ once same ys))
      go true h ih (inl e) = ih (in_cast y x ys e (has_in y ys h))
      go true h ih (inr j) = ih j
      go false h ih (inl e) = inl e
      go false h ih (inr j) = inr (ih j)

  once_in : (x : A) (xs : List A) → In x (once same xs) → In x xs
  once_in x [] i = i
  once_in x (y ∷ ys) i = go (has same y ys) (once_in x ys) i
    where
      go : (b : Bool) → (In x (once same ys) → In x ys) → In x (cond b (once same ys) (y ∷ once same ys)) → In x (y ∷ ys)
      go true ih j = inr (ih j)
      go false ih (inl e) = inl e
      go false ih (inr j) = inr (ih j)

  once_distinct : (xs : List A) → Distinct (once same xs)
  once_distinct [] = tt
  once_distinct (y ∷ ys) = go (has same y ys) refl (once_distinct ys)
    where
      go : (b : Bool) → has same y ys ≡ b → Distinct (once same ys) → Distinct (cond b (once same ys) (y ∷ once same ys))
      go true h ih = ih
      go false h ih = (λ i. both_ways (has same y ys) h (in_has y ys (once_in y ys i)), ih)

  -- all elements in a list: no more different ones than that list has places
  pub at_most : (xs ys : List A) → ((x : A) → In x xs → In x ys) → different same xs ≤ length ys
  at_most xs ys f = subst (λ n. n ≤ length ys) (once_length same xs) (fits (once same xs) ys (once_distinct xs) (λ x i. f x (once_in x xs i)))

  -- a list with no element twice, all of them elements: at least as many different ones
  pub at_least : (xs ys : List A) → Distinct ys → ((y : A) → In y ys → In y xs) → length ys ≤ different same xs
  at_least xs ys d f = subst (λ n. length ys ≤ n) (once_length same xs) (fits ys (once same xs) d (λ y i. in_once y xs (f y i)))

-- the values of f below n
abbrev pub listed : {A : Type 0} → (ℕ → A) → ℕ → List A
listed f zero = []
listed f (suc n) = f n ∷ listed f n

pub listed_length : {A : Type 0} (f : ℕ → A) (n : ℕ) → length (listed f n) ≡ n
listed_length f zero = refl
listed_length f (suc n) = ap suc (listed_length f n)

pub listed_in : {A : Type 0} (f : ℕ → A) (n i : ℕ) → i < n → In (f i) (listed f n)
listed_in f zero i l = absurd (omega arith)
listed_in f (suc n) i l = elim (cases_eq i n) [ inl e ↦ inl (ap f e) | inr e ↦ inr (listed_in f n i (omega arith)) ]

pub in_listed : {A : Type 0} (f : ℕ → A) (n : ℕ) (x : A) → In x (listed f n) → (i : ℕ) × (i < n) × (x ≡ f i)
in_listed f zero x h = absurd h
in_listed f (suc n) x (inl e) = (n, omega arith, e)
in_listed f (suc n) x (inr h) = let r = in_listed f n x h in (r.0, omega (arith, r.1), r.2)

pub listed_distinct : {A : Type 0} (f : ℕ → A) (n : ℕ) → ((i j : ℕ) → i < n → j < n → f i ≡ f j → i ≡ j) → Distinct (listed f n)
listed_distinct f zero inj = tt
listed_distinct f (suc n) inj = (
  (λ h. let r = in_listed f n (f n) h in let e = inj n r.0 (omega arith) (omega (arith, r.1)) r.2 in omega (arith, r.1, e)),
  listed_distinct f n (λ i j il jl e. inj i j (omega arith) (omega arith) e),
)

module _ {A : Type 0} (same : A → A → Bool) (law : Lawful same) (name : ℕ → A) (n : ℕ) (xs : List A) where
  -- every element has a slot that it is the name of
  pub room : ((x : A) → In x xs → (i : ℕ) × (i < n) × (x ≡ name i)) → different same xs ≤ n
  room f =
      let r = at_most same law xs (listed name n) (λ x i. let s = f x i in in_cast (name s.0) x (listed name n) s.2 (listed_in name n s.0 s.1)) in
      omega (arith, r, listed_length name n)

  -- every slot has a name of its own, an element, and one more element is the name of none
  pub no_room : ((i j : ℕ) → i < n → j < n → name i ≡ name j → i ≡ j) → ((i : ℕ) → i < n → In (name i) xs) → (x : A) → In x xs → ((i : ℕ) → i < n → x ≡ name i → ⊥) → n < different same xs
  no_room inj inside x here away =
      let ys = x ∷ listed name n in
      let d : Distinct ys = ((λ h. let r = in_listed name n x h in away r.0 r.1 r.2), listed_distinct name n inj) in
      let r = at_least same law xs ys d elim_in in
      omega (arith, r, listed_length name n)
    where
      elim_in : (y : A) → In y (x ∷ listed name n) → In y xs
      elim_in y (inl e) = in_cast x y xs e here
      elim_in y (inr h) = let r = in_listed name n y h in in_cast (name r.0) y xs r.2 (inside r.0 r.1)

-- the test of parts
and_left : (a b : Bool) → (a && b) ≡ true → a ≡ true
and_left true b h = refl
and_left false b h = h

and_right : (a b : Bool) → (a && b) ≡ true → b ≡ true
and_right true b h = h
and_right false b h = absurd (both_ways false refl h)

and_both : (a b : Bool) → a ≡ true → b ≡ true → (a && b) ≡ true
and_both true b h k = k
and_both false b h k = h

entry_right : (x y : Time) → same_time x y ≡ true → x ≡ y
entry_right None None h = refl
entry_right None (Some y) h = absurd (both_ways false refl h)
entry_right (Some x) None h = absurd (both_ways false refl h)
entry_right (Some x) (Some y) h = ap {B = Time} Some (eqb-true x y h)

entry_full : (x : Time) → same_time x x ≡ true
entry_full None = refl
entry_full (Some x) = eq-eqb x x refl

chart_right : (x y : Chart) → same_chart x y ≡ true → x ≡ y
chart_right [] [] h = refl
chart_right [] (y ∷ ys) h = absurd (both_ways false refl h)
chart_right (x ∷ xs) [] h = absurd (both_ways false refl h)
chart_right (x ∷ xs) (y ∷ ys) h =
    let p = entry_right x y (and_left (same_time x y) (same_chart xs ys) h) in
    let q = chart_right xs ys (and_right (same_time x y) (same_chart xs ys) h) in
    λ i. p i ∷ q i

chart_full : (x : Chart) → same_chart x x ≡ true
chart_full [] = refl
chart_full (x ∷ xs) = and_both (same_time x x) (same_chart xs xs) (entry_full x) (chart_full xs)

pub part_lawful : Lawful same_part
part_lawful = record {
  right = λ p q h.
      let e = eqb-true p.fixed q.fixed (and_left (eqb p.fixed q.fixed) (same_chart p.chart q.chart) h) in
      let f = chart_right p.chart q.chart (and_right (eqb p.fixed q.fixed) (same_chart p.chart q.chart) h) in
      λ i. record { fixed = e i; chart = f i };
  full = λ p. and_both (eqb p.fixed p.fixed) (same_chart p.chart p.chart) (eq-eqb p.fixed p.fixed refl) (chart_full p.chart);
}
