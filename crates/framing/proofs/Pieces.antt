-- What so many bytes can be. Assumes nothing.
use Rattle.std.proofs.Common.{◌≡◌, ℕ, zero, suc, ◌*◌, List, [], ◌∷◌, ◌++◌, length, take, drop, sym, refl, ap, ◌∙◌, arith, take-append-drop}
use Rattle.std.specs.List.{flat_map, AllByRecursion}
use Rattle.std.proofs.lemmas.List.{length-take-le, length-drop}
use Rattle.model.specs.Moves.{Pair}
use Rattle.model.specs.Contents.{Name}
use Rattle.format.specs.Bytes.{pair}
use Rattle.format.specs.Files.{devices, Eight}

-- twice n bytes are n pairs
pub paired : (n : ℕ) (xs : List ℕ) → length xs ≡ 2 * n → (ps : List Pair) × (length ps ≡ n) × (xs ≡ flat_map pair ps)
paired zero [] h = ([], refl, refl)
paired zero (x ∷ xs) h = absurd (omega arith)
paired (suc n) [] h = absurd (omega arith)
paired (suc n) (x ∷ []) h = absurd (omega arith)
paired (suc n) (x ∷ y ∷ xs) h =
    let p = paired n xs (omega arith) in
    let q : Pair = record { device = x; setting = y } in
    (q ∷ p.0, ap suc p.1, ap (λ (u : List ℕ). x ∷ y ∷ u) p.2)

-- nine times n bytes are n devices
pub record Devices (n : ℕ) (xs : List ℕ) : Type 0 where
  pub settings : List ℕ
  pub names : List Name
  pub many : length settings ≡ n
  pub named : length names ≡ n
  pub eight : AllByRecursion Eight names
  pub made : xs ≡ devices settings names

pub devised : (n : ℕ) (xs : List ℕ) → length xs ≡ 9 * n → Devices n xs
devised zero [] h = record { settings = []; names = []; many = refl; named = refl; eight = tt; made = refl }
devised zero (x ∷ xs) h = absurd (omega arith)
devised (suc n) [] h = absurd (omega arith)
devised (suc n) (x ∷ xs) h =
    let l : length (drop 8 xs) ≡ 9 * n = (let m = length-drop 8 xs in omega (arith, m, h)) in
    let d = devised n (drop 8 xs) l in
    record {
      settings = x ∷ d.settings;
      names = take 8 xs ∷ d.names;
      many = ap suc d.many;
      named = ap suc d.named;
      eight = (length-take-le 8 xs (omega (arith, h)), d.eight);
      made = ap (λ (u : List ℕ). x ∷ u) (sym (take-append-drop 8 xs) ∙ ap (λ (u : List ℕ). take 8 xs ++ u) d.made);
    }
