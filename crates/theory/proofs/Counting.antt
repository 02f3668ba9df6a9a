-- The product of the ones in the masks counts the wanted scenes. Assumes nothing.
use Rattle.std.proofs.Common.{◌≡◌, ℕ, zero, suc, ◌+◌, ◌*◌, ◌/◌, ◌%◌, ◌^◌, ◌<◌, Bool, true, false, cond, ◌&&◌, eqb, leb, List, [], ◌∷◌, ◌++◌, map, length, Ok, Err, Result, sym, refl, ap, ◌∙◌, subst, add_assoc, mod-lt, div-lt_iff_lt-mul, add-mul, one-mul, pow-suc, zero-add, zero-mul, div-one, add-one, arith, lit<}
use native.Mathlib.Nat.{pow-succ', div-div-eq-div-mul}
use lib.Count.{ones, ones_step, ones-le}
use Rattle.std.specs.List.{range_with_len, flat_map}
use Rattle.std.proofs.lemmas.Bool.{or_parts, leb-false, eqb-true, not-false}
use Rattle.model.specs.Lists.{count, some_two}
use Rattle.model.specs.Scenes.{Shape, Scene, scenes}
use Rattle.model.specs.Masks.{admits, wanted, ill, product_of_ones}
use Rattle.model.specs.Contents.{Contents}
use Rattle.model.specs.Calls.{CountsWanted, wants, want_checks}
use Rattle.model.proofs.Refusing.{accepted, accepts}

module _ {X : Type 0} (t : X → Bool) where
  count_append : (xs ys : List X) → count t (xs ++ ys) ≡ count t xs + count t ys
  count_append [] ys = sym (zero-add (count t ys))
  count_append (x ∷ xs) ys = ap (λ (n : ℕ). cond (t x) 1 0 + n) (count_append xs ys) ∙ sym (add_assoc (cond (t x) 1 0) (count t xs) (count t ys))

-- a test of scenes that begin with x
begun : (m : ℕ) (ms : List ℕ) (x : ℕ) (b : Bool) → admits m x ≡ b → (ss : List Scene) → count (wanted (m ∷ ms)) (map (λ xs. x ∷ xs) ss) ≡ cond b 1 0 * count (wanted ms) ss
begun m ms x b e [] = by b
  where
    by : (b : Bool) → ◌≡◌ {A = ℕ} 0 (cond b 1 0 * 0)
    by true = refl
    by false = refl
begun m ms x true e (s ∷ ss) =
    ap (λ (n : ℕ). cond (admits m x && wanted ms s) 1 0 + n) (begun m ms x true e ss)
    ∙ ap (λ (b : Bool). cond (b && wanted ms s) 1 0 + 1 * count (wanted ms) ss) e
    ∙ ap (λ (n : ℕ). cond (wanted ms s) 1 0 + n) (one-mul (count (wanted ms) ss)) ∙ sym (one-mul (count (wanted ms) (s ∷ ss)))
begun m ms x false e (s ∷ ss) =
    ap (λ (n : ℕ). cond (admits m x && wanted ms s) 1 0 + n) (begun m ms x false e ss)
    ∙ ap (λ (b : Bool). cond (b && wanted ms s) 1 0 + 0 * count (wanted ms) ss) e
    ∙ zero-add (0 * count (wanted ms) ss) ∙ zero-mul (count (wanted ms) ss) ∙ sym (zero-mul (count (wanted ms) (s ∷ ss)))

-- of each setting of the first device, all the scenes of the others
spread : (m : ℕ) (ms : List ℕ) (ss : List Scene) (xs : List ℕ) → count (wanted (m ∷ ms)) (flat_map (λ x. map (λ s. x ∷ s) ss) xs) ≡ count (admits m) xs * count (wanted ms) ss
spread m ms ss [] = sym (zero-mul (count (wanted ms) ss))
spread m ms ss (x ∷ xs) =
    count_append (wanted (m ∷ ms)) (map (λ s. x ∷ s) ss) (flat_map (λ x. map (λ s. x ∷ s) ss) xs)
    ∙ ap (λ (n : ℕ). n + count (wanted (m ∷ ms)) (flat_map (λ x. map (λ s. x ∷ s) ss) xs)) (begun m ms x (admits m x) refl ss)
    ∙ ap (λ (n : ℕ). cond (admits m x) 1 0 * count (wanted ms) ss + n) (spread m ms ss xs)
    ∙ sym (add-mul (cond (admits m x) 1 0) (count (admits m) xs) (count (wanted ms) ss))

-- the bits past the first are those of the half
half_bit : (m k : ℕ) → admits m (k + 1) ≡ admits (m / 2) k
half_bit m k = ap (λ (q : ℕ). eqb (q % 2) 1) (ap (λ (d : ℕ). m / d) (ap (λ (j : ℕ). 2 ^ j) (add-one k) ∙ pow-succ' 2 k) ∙ sym (div-div-eq-div-mul m 2 (2 ^ k)))

halved : (m a n : ℕ) → count (admits m) (range_with_len (a + 1) n) ≡ count (admits (m / 2)) (range_with_len a n)
halved m a zero = refl
halved m a (suc n) =
    ap (λ (b : Bool). cond b 1 0 + count (admits m) (range_with_len (a + 1 + 1) n)) (half_bit m a)
    ∙ ap (λ (k : ℕ). cond (admits (m / 2) a) 1 0 + k) (halved m (a + 1) n)

-- the first bit
bit : (r : ℕ) → r < 2 → r ≡ cond (eqb r 1) 1 0
bit zero h = refl
bit (suc zero) h = refl
bit (suc (suc r)) h = absurd (omega arith)

first_bit : (m : ℕ) → m % 2 ≡ cond (admits m 0) 1 0
first_bit m = bit (m % 2) (mod-lt m (lit< tt)) ∙ ap (λ (q : ℕ). cond (eqb (q % 2) 1) 1 0) (sym (div-one m))

-- the ones of a mask are the settings that it admits
pub ones_admitted : (n m : ℕ) → m < 2 ^ n → ones m ≡ count (admits m) (range_with_len 0 n)
ones_admitted zero m h = omega (arith, ones-le 0 m h)
ones_admitted (suc n) m h =
    let less : m < 2 ^ n * 2 = subst (λ (k : ℕ). m < k) (pow-suc 2 n) h in
    let half : m / 2 < 2 ^ n = (div-lt_iff_lt-mul (lit< tt)).1 less in
    ones_step m ∙ ap (λ (k : ℕ). k + ones (m / 2)) (first_bit m) ∙ ap (λ (k : ℕ). cond (admits m 0) 1 0 + k) (ones_admitted n (m / 2) half ∙ sym (halved m 0 n))

pub wanted_counted : (ns : Shape) (ms : List ℕ) → length ms ≡ length ns → some_two ill ms ns ≡ false → product_of_ones ms ≡ count (wanted ms) (scenes ns)
wanted_counted [] [] l h = refl
wanted_counted [] (m ∷ ms) l h = absurd (omega (arith, l))
wanted_counted (n ∷ ns) [] l h = absurd (omega (arith, l))
wanted_counted (n ∷ ns) (m ∷ ms) l h =
    let both = or_parts (ill m n) (some_two ill ms ns) h in
    let fits = leb-false (2 ^ n) m (or_parts (eqb m 0) (leb (2 ^ n) m) both.0).1 in
    let rest = wanted_counted ns ms (omega (arith, l)) both.1 in
    ap (λ (k : ℕ). k * product_of_ones ms) (ones_admitted n m fits)
    ∙ ap (λ (k : ℕ). count (admits m) (range_with_len 0 n) * k) rest
    ∙ sym (spread m ms (scenes ns) (range_with_len 0 n))

counted_by : (c : Contents) (ms : List ℕ) (r : Result ℕ ℕ) → wants c ms ≡ r → CountsWanted c ms r
counted_by c ms (Ok k) e =
    let checks = accepted (want_checks c.settings ms) (product_of_ones ms) k e in
    let long = eqb-true (length ms) (length c.settings) (not-false _ checks.0) in
    let all = accepts (want_checks c.settings ms) (product_of_ones ms) checks in
    same_count k (product_of_ones ms) (sym e ∙ all) ∙ wanted_counted c.settings ms long checks.1.0
  where
    same_count : (a b : ℕ) → ◌≡◌ {A = Result ℕ ℕ} (Ok a) (Ok b) → a ≡ b
    same_count a b q = cc
counted_by c ms (Err f) e = tt

-- of an answer that is that of want
pub counted : (c : Contents) (ms : List ℕ) (r : Result ℕ ℕ) → r ≡ wants c ms → CountsWanted c ms r
counted c ms r e = counted_by c ms r (sym e)
