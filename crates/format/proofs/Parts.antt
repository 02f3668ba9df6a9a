-- Surcharges, moves and devices can be told from what follows them. Assumes nothing.
use Rattle.std.proofs.Common.{◌≡◌, ℕ, List, [], ◌∷◌, ◌++◌, length, sym, refl, ap, ◌∙◌, append_assoc, arith}
use Rattle.std.specs.List.{flat_map, AllByRecursion}
use Rattle.model.specs.Moves.{Move}
use Rattle.model.specs.Contents.{Name}
use Rattle.format.specs.Bytes.{two, pair, Prefix}
use Rattle.format.specs.Files.{surcharge, lists, entry, devices, Eight}
use Rattle.format.proofs.Codes.{two_prefix, pair_prefix, many, cut}

pub surcharge_prefix : Prefix surcharge
surcharge_prefix x y r s e =
    let n : length x.tests ≡ length y.tests = cc in
    let d : two x.extra ++ (flat_map pair x.tests ++ r) ≡ two y.extra ++ (flat_map pair y.tests ++ s) = cc in
    let p = two_prefix x.extra y.extra (flat_map pair x.tests ++ r) (flat_map pair y.tests ++ s) d in
    let q = many pair pair_prefix x.tests y.tests r s n p.1 in
    (λ i. record { tests = q.0 i; extra = p.0 i }, q.1)

-- the lists of a move, and what follows them
pub lists_then : (m : Move) (r : List ℕ) → lists m ++ r ≡ flat_map pair m.conditions ++ (flat_map pair m.effects ++ (flat_map surcharge m.surcharges ++ r))
lists_then m r =
    append_assoc (flat_map pair m.conditions) (flat_map pair m.effects ++ flat_map surcharge m.surcharges) r
    ∙ ap (λ (l : List ℕ). flat_map pair m.conditions ++ l) (append_assoc (flat_map pair m.effects) (flat_map surcharge m.surcharges) r)

pub entry_prefix : Prefix entry
entry_prefix x y r s e =
    let m = x.move in
    let o = y.move in
    let a : x.number ≡ y.number = cc in
    let b : length m.conditions ≡ length o.conditions = cc in
    let c : length m.effects ≡ length o.effects = cc in
    let d : length m.surcharges ≡ length o.surcharges = cc in
    let t : two m.base ++ (lists m ++ r) ≡ two o.base ++ (lists o ++ s) = cc in
    let p = two_prefix m.base o.base (lists m ++ r) (lists o ++ s) t in
    let q = many pair pair_prefix m.conditions o.conditions (flat_map pair m.effects ++ (flat_map surcharge m.surcharges ++ r)) (flat_map pair o.effects ++ (flat_map surcharge o.surcharges ++ s)) b (sym (lists_then m r) ∙ p.1 ∙ lists_then o s) in
    let u = many pair pair_prefix m.effects o.effects (flat_map surcharge m.surcharges ++ r) (flat_map surcharge o.surcharges ++ s) c q.1 in
    let v = many surcharge surcharge_prefix m.surcharges o.surcharges r s d u.1 in
    (λ i. record { number = a i; move = record { conditions = q.0 i; effects = u.0 i; base = p.0 i; surcharges = v.0 i } }, v.1)

-- as many devices, each with a name of eight bytes
pub cut_devices : (ns ms : List ℕ) (xs ys : List Name) (r s : List ℕ) → length ns ≡ length ms → length xs ≡ length ns → length ys ≡ length ms → AllByRecursion Eight xs → AllByRecursion Eight ys → devices ns xs ++ r ≡ devices ms ys ++ s → (ns ≡ ms) × (xs ≡ ys) × (r ≡ s)
cut_devices [] [] [] [] r s n a b f g e = (refl, refl, e)
cut_devices [] [] (x ∷ xs) ys r s n a b f g e = absurd (omega arith)
cut_devices [] [] [] (y ∷ ys) r s n a b f g e = absurd (omega arith)
cut_devices [] (m ∷ ms) xs ys r s n a b f g e = absurd (omega arith)
cut_devices (n ∷ ns) [] xs ys r s l a b f g e = absurd (omega arith)
cut_devices (n ∷ ns) (m ∷ ms) [] ys r s l a b f g e = absurd (omega arith)
cut_devices (n ∷ ns) (m ∷ ms) (x ∷ xs) [] r s l a b f g e = absurd (omega arith)
cut_devices (n ∷ ns) (m ∷ ms) (x ∷ xs) (y ∷ ys) r s l a b f g e =
    let h : n ≡ m = cc in
    let t : (x ++ devices ns xs) ++ r ≡ (y ++ devices ms ys) ++ s = cc in
    let p = cut x y (devices ns xs ++ r) (devices ms ys ++ s) (f.0 ∙ sym g.0) (sym (append_assoc x (devices ns xs) r) ∙ t ∙ append_assoc y (devices ms ys) s) in
    let q = cut_devices ns ms xs ys r s (omega arith) (omega arith) (omega arith) f.1 g.1 p.1 in
    (λ i. h i ∷ q.0 i, λ i. p.0 i ∷ q.1 i, q.2)
