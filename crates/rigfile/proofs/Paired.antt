-- Bytes as pairs. Assumes nothing.
use Rattle.std.proofs.Common.{◌≡◌, ℕ, zero, suc, ◌+◌, ◌*◌, ◌≤◌, List, [], ◌∷◌, ◌++◌, length, get_or, take, drop, sym, refl, ap, ◌∙◌, append_assoc, arith}
use Rattle.std.specs.List.{flat_map}
use Rattle.std.proofs.lemmas.List.{drop-map, take-map, drop-drop, map-append}
use Rattle.std.proofs.Math.Seq.{take-append_seam, drop-append_seam}
use Rattle.model.specs.Moves as model
use Rattle.moves.specs.declared.pair.Pair.{Pair}
use Rattle.moves.specs.Views.{pair_of, pairs_of}
use Rattle.format.specs.Bytes.{pair}
use Rattle.rigfile.specs.Taking.{pairing}

-- bytes in even number are the pairs
pub record Even (n : ℕ) (xs : List ℕ) : Type 0 where
  pub many : length (pairing xs) ≡ n
  pub same : xs ≡ flat_map pair (pairing xs)
  pub before : (rest : List ℕ) → pairing (xs ++ rest) ≡ pairing xs ++ pairing rest

pub even : (n : ℕ) (xs : List ℕ) → length xs ≡ 2 * n → Even n xs
even zero [] h = record { many = refl; same = refl; before = λ rest. refl }
even zero (x ∷ xs) h = absurd (omega arith)
even (suc n) [] h = absurd (omega arith)
even (suc n) (x ∷ []) h = absurd (omega arith)
even (suc n) (x ∷ y ∷ xs) h =
    let e = even n xs (omega arith) in
    let p : model.Pair = record { device = x; setting = y } in
    record {
      many = ap suc e.many;
      same = ap (λ (u : List ℕ). x ∷ y ∷ u) e.same;
      before = λ rest. ap (λ (u : List model.Pair). p ∷ u) (e.before rest);
    }

pub drop_pairing : (n : ℕ) (xs : List ℕ) → drop n (pairing xs) ≡ pairing (drop (2 * n) xs)
drop_pairing zero xs = refl
drop_pairing (suc n) [] = let t : 2 * suc n ≡ suc (suc (2 * n)) = omega arith in ap (λ (k : ℕ). pairing (drop k [])) (sym t)
drop_pairing (suc n) (x ∷ []) = let t : 2 * suc n ≡ suc (suc (2 * n)) = omega arith in ap (λ (k : ℕ). pairing (drop k (x ∷ []))) (sym t)
drop_pairing (suc n) (x ∷ y ∷ xs) = let t : 2 * suc n ≡ suc (suc (2 * n)) = omega arith in drop_pairing n xs ∙ ap (λ (k : ℕ). pairing (drop k (x ∷ y ∷ xs))) (sym t)

-- at most one byte is left out
pub nearly_all : (xs : List ℕ) → length xs ≤ 2 * length (pairing xs) + 1
nearly_all [] = omega arith
nearly_all (x ∷ []) = omega arith
nearly_all (x ∷ y ∷ xs) = let h = nearly_all xs in omega (arith, h)

-- the first n pairs of those that are laid out, and what is left of them
module _ (bs xs rest : List ℕ) (n : ℕ) (len : length xs ≡ 2 * n) (split : bs ≡ xs ++ rest) where
  past_bytes : rest ≡ drop (2 * n) bs
  past_bytes = sym (drop-append_seam xs rest) ∙ ap (λ (k : ℕ). drop k (xs ++ rest)) len ∙ ap (drop (2 * n)) (sym split)

  pub first_pairs : (ps : List Pair) → pairs_of ps ≡ pairing bs → pairs_of (take n ps) ≡ pairing xs
  first_pairs ps laid =
      let e = even n xs len in
      sym (take-map pair_of n ps)
      ∙ ap (take n) (laid ∙ ap pairing split ∙ e.before rest)
      ∙ ap (λ (k : ℕ). take k (pairing xs ++ pairing rest)) (sym e.many)
      ∙ take-append_seam (pairing xs) (pairing rest)

  pub here_left : (ps : List Pair) → pairs_of ps ≡ pairing bs → pairs_of (drop n ps) ≡ pairing rest
  here_left ps laid = sym (drop-map pair_of n ps) ∙ ap (drop n) laid ∙ drop_pairing n bs ∙ ap pairing (sym past_bytes)

  pub next_left : (ps : List Pair) → pairs_of ps ≡ pairing (drop 1 bs) → pairs_of (drop n ps) ≡ pairing (drop 1 rest)
  next_left ps laid =
      let order : 1 + 2 * n ≡ 2 * n + 1 = omega arith in
      sym (drop-map pair_of n ps)
      ∙ ap (drop n) laid
      ∙ drop_pairing n (drop 1 bs)
      ∙ ap pairing (drop-drop (2 * n) 1 bs ∙ ap (λ (k : ℕ). drop k bs) order ∙ sym (drop-drop 1 (2 * n) bs) ∙ ap (drop 1) (sym past_bytes))

-- two bytes more are one pair more
pub turn_pairs : (done : List Pair) (xs before rest bs : List ℕ) → length xs ≡ 2 → before ≡ xs ++ rest → pairs_of done ++ pairing before ≡ pairing bs → pairs_of (done ++ record { device = get_or xs 0 0; setting = get_or xs 1 0 } ∷ []) ++ pairing rest ≡ pairing bs
turn_pairs done [] before rest bs l e h = absurd (omega arith)
turn_pairs done (x ∷ []) before rest bs l e h = absurd (omega arith)
turn_pairs done (x ∷ y ∷ []) before rest bs l e h =
    let p : Pair = record { device = x; setting = y } in
    ap (λ (u : List model.Pair). u ++ pairing rest) (map-append pair_of done (p ∷ []))
    ∙ append_assoc (pairs_of done) (pair_of p ∷ []) (pairing rest)
    ∙ ap (λ (u : List ℕ). pairs_of done ++ pairing u) (sym e)
    ∙ h
turn_pairs done (x ∷ y ∷ z ∷ xs) before rest bs l e h = absurd (omega arith)
