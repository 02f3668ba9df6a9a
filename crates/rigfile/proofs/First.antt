-- The first refusal of several, whole scenes, and names, as files have them. Assumes nothing.
use Rattle.std.proofs.Common.{◌≡◌, ℕ, suc, ◌<◌, List, [], ◌∷◌, ◌++◌, length, Bool, true, false, cond, eqb, Result, Ok, Err, get_or, Decides, sym, refl, ap, ◌∙◌, arith}
use Rattle.std.proofs.lemmas.Bool.{eqb-true, eq-eqb, and_parts, and_from}
use Rattle.model.specs.Refusals.{Check, answer}
use Rattle.model.specs.Scenes.{Shape, Scene, SceneOf}
use Rattle.model.specs.Calls.{same_name}

-- a refusal is not altered by what would have been checked after it
ok_not_err : {T : Type 0} {x : T} {n : ℕ} → Err n ≡ Ok x → ⊥
ok_not_err e = let z : ◌≡◌ {A = ℕ} 0 1 = cc in omega arith

stopped : {T U : Type 0} (b : Bool) (n k : ℕ) (r : Result T ℕ) (q : Result U ℕ) → (r ≡ Err k → q ≡ Err k) → cond b (Err n) r ≡ Err k → cond b (Err n) q ≡ Err k
stopped true n k r q h e = ap Err (inside e)
  where
    inside : {X : Type 0} {a b : ℕ} → ◌≡◌ {A = Result X ℕ} (Err a) (Err b) → a ≡ b
    inside g = cc
stopped false n k r q h e = h e

pub refused_first : {T U : Type 0} (cs ds : List Check) (x : T) (y : U) (n : ℕ) → answer cs x ≡ Err n → answer (cs ++ ds) y ≡ Err n
refused_first [] ds x y n e = absurd (ok_not_err (sym e))
refused_first (k ∷ cs) ds x y n e =
    stopped k.holds k.number n (answer cs x) (answer (cs ++ ds) y) (refused_first cs ds x y n) e

-- settings below their counts, one by one, are a scene
pub scene_from : (ns : Shape) (s : Scene) → length s ≡ length ns → ((v : ℕ) → v < length ns → get_or s v 0 < get_or ns v 0) → SceneOf ns s
scene_from [] [] e h = tt
scene_from [] (x ∷ xs) e h = absurd (omega arith)
scene_from (n ∷ ns) [] e h = absurd (omega arith)
scene_from (n ∷ ns) (x ∷ xs) e h = (h 0 (omega arith), scene_from ns xs (omega arith) (λ v less. h (suc v) (omega arith)))

-- names that pass for the same are the same
pub same_is : (xs ys : List ℕ) → same_name xs ys ≡ true → xs ≡ ys
same_is [] [] e = refl
same_is [] (y ∷ ys) e = let z : ◌≡◌ {A = List ℕ} [] (y ∷ ys) = cc in z
same_is (x ∷ xs) [] e = let z : ◌≡◌ {A = List ℕ} (x ∷ xs) [] = cc in z
same_is (x ∷ xs) (y ∷ ys) e =
    let both = and_parts (eqb x y) (same_name xs ys) e in
    ap (λ (n : ℕ). n ∷ xs) (eqb-true x y both.0) ∙ ap (λ (l : List ℕ). y ∷ l) (same_is xs ys both.1)

pub same_self : (xs : List ℕ) → same_name xs xs ≡ true
same_self [] = refl
same_self (x ∷ xs) = and_from (eqb x x) (same_name xs xs) (eq-eqb x x refl) (same_self xs)
