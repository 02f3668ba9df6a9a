-- Devices one after another. Assumes nothing.
use Rattle.std.proofs.Common.{◌≡◌, ℕ, ◌+◌, ◌*◌, List, [], ◌∷◌, ◌++◌, length, get_or, sym, refl, ap, ◌∙◌, append_assoc, append-nil, arith, length-append}
use Rattle.std.specs.List.{AllByRecursion}
use Rattle.model.specs.Contents.{Name}
use Rattle.format.specs.Files.{devices, Eight}
use Rattle.format.proofs.Sizes.{devices_long}

pub front_long : (ns : List ℕ) (names : List Name) (before rest : List ℕ) → length names ≡ length ns → AllByRecursion Eight names → before ≡ devices ns names ++ rest → length before ≡ 9 * length ns + length rest
front_long ns names before rest l eight e = ap length e ∙ length-append (devices ns names) rest ∙ ap (λ (k : ℕ). k + length rest) (devices_long ns names l eight)

-- one more device
pub devices_push : (ns : List ℕ) (names : List Name) (n : ℕ) (name : Name) (rest : List ℕ) → length names ≡ length ns → devices ns names ++ (n ∷ (name ++ rest)) ≡ devices (ns ++ n ∷ []) (names ++ name ∷ []) ++ rest
devices_push [] [] n name rest l = ap (λ (u : List ℕ). n ∷ (u ++ rest)) (sym (append-nil name))
devices_push [] (x ∷ xs) n name rest l = absurd (omega arith)
devices_push (m ∷ ms) [] n name rest l = absurd (omega arith)
devices_push (m ∷ ms) (x ∷ xs) n name rest l =
    ap (λ (u : List ℕ). m ∷ u)
    (append_assoc x (devices ms xs) (n ∷ (name ++ rest))
    ∙ ap (λ (u : List ℕ). x ++ u) (devices_push ms xs n name rest (omega arith))
    ∙ sym (append_assoc x (devices (ms ++ n ∷ []) (xs ++ name ∷ [])) rest))

pub eight_push : (names : List Name) (name : Name) → AllByRecursion Eight names → length name ≡ 8 → AllByRecursion Eight (names ++ name ∷ [])
eight_push [] name all e = (e, tt)
eight_push (x ∷ xs) name all e = (all.0, eight_push xs name all.1 e)

-- a list of one item
pub single : (xs : List ℕ) → length xs ≡ 1 → xs ≡ get_or xs 0 0 ∷ []
single [] l = absurd (omega arith)
single (x ∷ []) l = refl
single (x ∷ y ∷ xs) l = absurd (omega arith)
