-- The moves of a table by rising number, and back. Assumes nothing.
use Rattle.std.proofs.Common.{◌≡◌, ℕ, ◌+◌, ◌≤◌, List, [], ◌∷◌, ◌++◌, length, replicate, Some, None, Option, sym, refl, ap, ◌∙◌, append_assoc, arith}
use Rattle.std.proofs.lemmas.List.{length_push, set_at}
use Rattle.model.specs.Moves.{Move}
use Rattle.format.specs.Files.{Entry, Rising, entries, placed}
use Rattle.format.specs.Laws.{PlacedBack}

rising_less : (low more : ℕ) (es : List Entry) → low ≤ more → Rising more es → Rising low es
rising_less low more [] h r = tt
rising_less low more (e ∷ es) h r = (omega (arith, r.0), r.1)

pub entries_rise : (n : ℕ) (slots : List (Option Move)) → Rising n (entries n slots)
entries_rise n [] = tt
entries_rise n (None ∷ slots) = rising_less n (n + 1) (entries (n + 1) slots) (omega arith) (entries_rise (n + 1) slots)
entries_rise n (Some m ∷ slots) = (omega arith, entries_rise (n + 1) slots)

-- no more moves than slots
pub entries_few : (n : ℕ) (slots : List (Option Move)) → length (entries n slots) ≤ length slots
entries_few n [] = omega arith
entries_few n (None ∷ slots) = let h = entries_few (n + 1) slots in omega (arith, h)
entries_few n (Some m ∷ slots) = let h = entries_few (n + 1) slots in omega (arith, h)

-- moves placed behind slots that are filled already
placed_behind : (n : ℕ) (done slots : List (Option Move)) → length done ≡ n → placed (entries n slots) (done ++ replicate (length slots) None) ≡ done ++ slots
placed_behind n done [] l = refl
placed_behind n done (None ∷ slots) l =
    ap (placed (entries (n + 1) slots)) (sym (append_assoc done (None ∷ []) (replicate (length slots) None)))
    ∙ placed_behind (n + 1) (done ++ None ∷ []) slots (length_push done None ∙ ap (λ (k : ℕ). k + 1) l)
    ∙ append_assoc done (None ∷ []) slots
placed_behind n done (Some m ∷ slots) l =
    ap (placed (entries (n + 1) slots)) (set_at done None (replicate (length slots) None) (Some m) n l ∙ sym (append_assoc done (Some m ∷ []) (replicate (length slots) None)))
    ∙ placed_behind (n + 1) (done ++ Some m ∷ []) slots (length_push done (Some m) ∙ ap (λ (k : ℕ). k + 1) l)
    ∙ append_assoc done (Some m ∷ []) slots

pub placed_back : PlacedBack
placed_back slots = placed_behind 0 [] slots refl

-- one slot before others
pub entries_first : (n : ℕ) (o : Option Move) (slots : List (Option Move)) → entries n (o ∷ slots) ≡ entries n (o ∷ []) ++ entries (n + 1) slots
entries_first n None slots = refl
entries_first n (Some m) slots = refl

pub entries_append : (n : ℕ) (xs ys : List (Option Move)) → entries n (xs ++ ys) ≡ entries n xs ++ entries (n + length xs) ys
entries_append n [] ys = ap (λ (k : ℕ). entries k ys) (omega arith)
entries_append n (None ∷ xs) ys = entries_append (n + 1) xs ys ∙ ap (λ (k : ℕ). entries (n + 1) xs ++ entries k ys) (omega arith)
entries_append n (Some m ∷ xs) ys =
    let e : Entry = record { number = n; move = m } in
    ap (λ (es : List Entry). e ∷ es) (entries_append (n + 1) xs ys ∙ ap (λ (k : ℕ). entries (n + 1) xs ++ entries k ys) (omega arith))
