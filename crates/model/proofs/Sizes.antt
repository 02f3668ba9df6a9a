-- How many scenes a shape has, device by device. Assumes nothing.
use Rattle.std.proofs.Common.{◌≡◌, ℕ, zero, suc, ◌+◌, ◌*◌, ◌^◌, ◌<◌, ◌≤◌, Bool, false, ltb, [], ◌∷◌, ◌++◌, length, get_or, take, drop, sym, ap, ◌∙◌, mul_assoc, add-mul, one-mul, pow-suc, add-one, arith, lit<}
use native.Mathlib.Nat.{pow-le-pow_right}
use Rattle.std.proofs.lemmas.Nat.{mul-le}
use Rattle.std.proofs.lemmas.List.{length-take, length-drop}
use Rattle.std.proofs.lemmas.Bool.{or_parts, ltb-false}
use Rattle.model.specs.Limits.{outside, most_devices, least_settings, most_settings}
use Rattle.model.specs.Lists.{some}
use Rattle.model.specs.Scenes.{Shape, size, shape_off}
use Rattle.model.proofs.Testing.{none_take, none_drop}

-- Legal counts

-- a count of settings outside its limits
abbrev pub count_off : ℕ → Bool
count_off = outside least_settings most_settings

pub legal_count : (n : ℕ) → count_off n ≡ false → (2 ≤ n) × (n ≤ 8)
legal_count n h =
    let both = or_parts (ltb n 2) (ltb 8 n) h in
    (ltb-false n 2 both.0, ltb-false 8 n both.1)

pub legal_parts : (ns : Shape) → shape_off ns ≡ false → (1 ≤ length ns) × (length ns ≤ 12) × (some count_off ns ≡ false)
legal_parts ns h =
    let both = or_parts (outside 1 most_devices (length ns)) (some count_off ns) h in
    let ends = or_parts (ltb (length ns) 1) (ltb most_devices (length ns)) both.0 in
    (ltb-false (length ns) 1 ends.0, ltb-false 12 (length ns) ends.1, both.1)

-- the first devices of a legal shape, and the others
pub legal_take : (i : ℕ) (ns : Shape) → shape_off ns ≡ false → (length (take i ns) ≤ 12) × (some count_off (take i ns) ≡ false)
legal_take i ns h =
    let p = legal_parts ns h in
    (omega (arith, length-take i ns, p.1), none_take count_off i ns p.2)

pub legal_drop : (i : ℕ) (ns : Shape) → shape_off ns ≡ false → (length (drop i ns) ≤ 12) × (some count_off (drop i ns) ≡ false)
legal_drop i ns h =
    let p = legal_parts ns h in
    (omega (arith, length-drop i ns, p.1), none_drop count_off i ns p.2)

-- Sizes

pub size_some : (ns : Shape) → some count_off ns ≡ false → 1 ≤ size ns
size_some [] h = omega arith
size_some (n ∷ ns) h =
    let both = or_parts (count_off n) (some count_off ns) h in
    omega (arith, mul-le 1 1 n (size ns) (omega (arith, (legal_count n both.0).0)) (size_some ns both.1))

pub size_pow : (ns : Shape) → some count_off ns ≡ false → size ns ≤ 8 ^ length ns
size_pow [] h = omega arith
size_pow (n ∷ ns) h =
    let both = or_parts (count_off n) (some count_off ns) h in
    let up = mul-le n (size ns) 8 (8 ^ length ns) (legal_count n both.0).1 (size_pow ns both.1) in
    omega (arith, pow-suc 8 (length ns))

-- at most twelve devices of at most eight settings
pub size_most : (ns : Shape) → some count_off ns ≡ false → length ns ≤ 12 → size ns ≤ 8 ^ 12
size_most ns h l = omega (arith, size_pow ns h, pow-le-pow_right {n = 8} (lit< tt) l)

-- the devices before one, that one, and those after it
pub size_split : (ns : Shape) (v : ℕ) → v < length ns → size ns ≡ size (take v ns) * (get_or ns v 0 * size (drop (v + 1) ns))
size_split [] v h = absurd (omega arith)
size_split (n ∷ ns) zero h = sym (one-mul (n * size ns))
size_split (n ∷ ns) (suc v) h =
    let next : suc (v + 1) ≡ suc v + 1 = omega arith in
    let deeper : size (drop (v + 1) ns) ≡ size (drop (suc v + 1) (n ∷ ns)) = ap (λ k. size (drop k (n ∷ ns))) next in
    ap (λ x. n * x) (size_split ns v (omega arith)) ∙ sym (mul_assoc n (size (take v ns)) (get_or ns v 0 * size (drop (v + 1) ns)))
    ∙ ap (λ k. (n * size (take v ns)) * (get_or ns v 0 * k)) deeper

-- a digit more below its base
pub digit_more : (p x n t : ℕ) → p < t → x < n → p * n + x < t * n
digit_more p x n t h k = omega (arith, mul-le (suc p) n t n h (omega arith), add-mul p 1 n, one-mul n, ap (λ z. z * n) (add-one p))
