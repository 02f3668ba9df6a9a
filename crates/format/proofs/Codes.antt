-- Codes that can be told from what follows them. Assumes nothing.
use Rattle.std.proofs.Common.{◌≡◌, ℕ, ◌/◌, ◌%◌, List, [], ◌∷◌, ◌++◌, length, sym, refl, ◌∙◌, append_assoc, arith}
use native.Mathlib.Nat.{div-add-mod}
use Rattle.std.specs.List.{flat_map}
use Rattle.format.specs.Bytes.{two, pair, Prefix}

pub two_prefix : Prefix two
two_prefix x y r s e =
    let a : x % 256 ≡ y % 256 = cc in
    let b : x / 256 ≡ y / 256 = cc in
    (omega (arith, div-add-mod x 256, div-add-mod y 256), cc)

pub pair_prefix : Prefix pair
pair_prefix x y r s e =
    let a : x.device ≡ y.device = cc in
    let b : x.setting ≡ y.setting = cc in
    (λ i. record { device = a i; setting = b i }, cc)

-- as many items, one after another
pub many : {X : Type 0} (f : X → List ℕ) → Prefix f → (xs ys : List X) (r s : List ℕ) → length xs ≡ length ys → flat_map f xs ++ r ≡ flat_map f ys ++ s → (xs ≡ ys) × (r ≡ s)
many f P [] [] r s n e = (refl, e)
many f P [] (y ∷ ys) r s n e = absurd (omega arith)
many f P (x ∷ xs) [] r s n e = absurd (omega arith)
many f P (x ∷ xs) (y ∷ ys) r s n e =
    let p = P x y (flat_map f xs ++ r) (flat_map f ys ++ s) (sym (append_assoc (f x) (flat_map f xs) r) ∙ e ∙ append_assoc (f y) (flat_map f ys) s) in
    let q = many f P xs ys r s (omega arith) p.1 in
    (λ i. p.0 i ∷ q.0 i, q.1)

-- lists as long
pub cut : {X : Type 0} (xs ys r s : List X) → length xs ≡ length ys → xs ++ r ≡ ys ++ s → (xs ≡ ys) × (r ≡ s)
cut [] [] r s n e = (refl, e)
cut [] (y ∷ ys) r s n e = absurd (omega arith)
cut (x ∷ xs) [] r s n e = absurd (omega arith)
cut (x ∷ xs) (y ∷ ys) r s n e =
    let a : x ≡ y = cc in
    let b : xs ++ r ≡ ys ++ s = cc in
    let p = cut xs ys r s (omega arith) b in
    (λ i. a i ∷ p.0 i, p.1)
