-- What the calls of any shelf answer and leave, by what hangs on its pegs. Assumes nothing.
use Rattle.std.proofs.Common.{◌≡◌, ℕ, ◌<◌, ◌≤◌, Bool, true, false, not, ◌||◌, ◌⊎◌, [], ◌∷◌, get_or, Ok, Err, Result, IsErrAnd, List, sym, ap, ◌∙◌, inl, inr}
use Rattle.std.proofs.lemmas.Bool.{or_left, or_right, or_from, lt-leb, le-leb}
use Rattle.std.proofs.lemmas.Result.{err_from_is_err_and}
use Rattle.model.specs.Charts.{late, plus, greatest, same_chart}
use Rattle.model.specs.Refusals.{refuse}
use Rattle.model.specs.Shelves.{Meaning, Call, cheaper, sum, on, bare, high, no_room, does, done, compares}
use Rattle.model.proofs.Refusing.{refuses, accepts}
use Rattle.model.proofs.Soundness.{call_refused}
use Rattle.shelf.specs.Faults.{number, numbered}
use Rattle.shelf.specs.Numbers.{NoCharts}
use Rattle.shelf.specs.declared.fault.ShelfFault.{ShelfFault}

-- Numbers of pegs

pub low_peg : (p : ℕ) → p < 8 → high p ≡ false
low_peg p h = lt-leb 8 p h

pub low_pegs : (l r : ℕ) → l < 8 → r < 8 → (high l || high r) ≡ false
low_pegs l r hl hr = or_from (high l) (high r) (low_peg l hl) (low_peg r hr)

pub all_low : (t l r : ℕ) → t < 8 → l < 8 → r < 8 → (high t || (high l || high r)) ≡ false
all_low t l r ht hl hr = or_from (high t) (high l || high r) (low_peg t ht) (low_pegs l r hl hr)

-- a peg number that is too high, of two
pub one_high : (l r : ℕ) → (8 ≤ l) ⊎ (8 ≤ r) → (high l || high r) ≡ true
one_high l r (inl h) = or_left (high l) (high r) (le-leb 8 l h)
one_high l r (inr h) = or_right (high l) (high r) (le-leb 8 r h)

-- Two pegs to be read, of a shelf on which charts hang so

module _ (m : Meaning) (hung : List Bool) (tells : (p : ℕ) → p < 8 → bare m.pegs p ≡ not (get_or hung p false)) where
  pub bare_is : (p : ℕ) → p < 8 → (b : Bool) → get_or hung p false ≡ b → bare m.pegs p ≡ not b
  bare_is p h b e = tells p h ∙ ap not e

  module _ (l r : ℕ) (hl : l < 8) (hr : r < 8) where
    one_bare : (get_or hung l false ≡ false) ⊎ (get_or hung r false ≡ false) → (bare m.pegs l || bare m.pegs r) ≡ true
    one_bare (inl e) = or_left (bare m.pegs l) (bare m.pegs r) (bare_is l hl false e)
    one_bare (inr e) = or_right (bare m.pegs l) (bare m.pegs r) (bare_is r hr false e)

    pub none_bare : get_or hung l false ≡ true → get_or hung r false ≡ true → (bare m.pegs l || bare m.pegs r) ≡ false
    none_bare el er = or_from (bare m.pegs l) (bare m.pegs r) (bare_is l hl true el) (bare_is r hr true er)

    pub compares_charts : get_or hung l false ≡ true → get_or hung r false ≡ true → compares m l r ≡ Ok (same_chart (on m.pegs l) (on m.pegs r))
    compares_charts el er = accepts (refuse 14 (high l || high r) ∷ refuse 15 (bare m.pegs l || bare m.pegs r) ∷ []) _ (low_pegs l r hl hr, (none_bare el er, tt))

  pub compares_refused : (l r : ℕ) (f : ShelfFault) → NoCharts hung l r f → compares m l r ≡ Err (number f)
  compares_refused l r f (inl h) = rw h.0 (refuses [] 14 (high l || high r) (refuse 15 (bare m.pegs l || bare m.pegs r) ∷ []) _ tt (one_high l r h.1))
  compares_refused l r f (inr h) =
      rw h.0 (refuses (refuse 14 (high l || high r) ∷ []) 15 (bare m.pegs l || bare m.pegs r) [] _ (low_pegs l r h.1 h.2, tt) (one_bare l r h.1 h.2 h.3))

  pub cheaper_refused : (t l r : ℕ) (f : ShelfFault) → t < 8 → NoCharts hung l r f → does m (cheaper t l r) ≡ Err (number f)
  cheaper_refused t l r f ht (inl h) =
      rw h.0 (refuses [] 14 (high t || (high l || high r)) (refuse 15 (bare m.pegs l || bare m.pegs r) ∷ no_room m (cheaper t l r) ∷ []) tt tt (or_right (high t) (high l || high r) (one_high l r h.1)))
  cheaper_refused t l r f ht (inr h) =
      rw h.0 (refuses (refuse 14 (high t || (high l || high r)) ∷ []) 15 (bare m.pegs l || bare m.pegs r) (no_room m (cheaper t l r) ∷ []) tt (all_low t l r ht h.1 h.2, tt) (one_bare l r h.1 h.2 h.3))

  pub sum_refused : (t l r : ℕ) (f : ShelfFault) → t < 8 → NoCharts hung l r f → does m (sum t l r) ≡ Err (number f)
  sum_refused t l r f ht (inl h) =
      rw h.0 (refuses [] 14 (high t || (high l || high r)) (refuse 15 (bare m.pegs l || bare m.pegs r) ∷ refuse 16 (late (plus (greatest (on m.pegs l)) (greatest (on m.pegs r)))) ∷ no_room m (sum t l r) ∷ []) tt tt (or_right (high t) (high l || high r) (one_high l r h.1)))
  sum_refused t l r f ht (inr h) =
      rw h.0 (refuses (refuse 14 (high t || (high l || high r)) ∷ []) 15 (bare m.pegs l || bare m.pegs r) (refuse 16 (late (plus (greatest (on m.pegs l)) (greatest (on m.pegs r)))) ∷ no_room m (sum t l r) ∷ []) tt (all_low t l r ht h.1 h.2, tt) (one_bare l r h.1 h.2 h.3))

-- A call as its caller reads it: what it is answered, and what it leaves

pub record Answered (m : Meaning) (call : Call) (r : Result (Unit {0}) ℕ) (n : Meaning) : Type 0 where
  pub answer : r ≡ does m call
  pub left : n ≡ done m call

pub refused_call : (m : Meaning) (call : Call) (f : ShelfFault) → does m call ≡ Err (number f) → (r : Result (Unit {0}) ShelfFault) → IsErrAnd r (λ y. y ≡ f) → Answered m call (numbered r) m
refused_call m call f e r h =
    let p = err_from_is_err_and r h in
    record { answer = ap numbered (p.1 ∙ ap Err p.2) ∙ sym e; left = sym (call_refused m call _ e) }
