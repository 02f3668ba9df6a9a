-- The edges of two nodes, gone through in step. Assumes nothing.
use Rattle.std.proofs.Common.{◌≡◌, ℕ, ◌+◌, ◌<◌, ◌≤◌, List, ◌∷◌, length, get_or, drop, Some, None, Option, sym, refl, ap, ◌∙◌, subst, inl, inr, arith, length-drop}
use denote.Ref.{Bor}
use Rattle.std.proofs.iter.Yields.{fronts}
use Rattle.std.proofs.lemmas.Iterator.{zips}
use Rattle.std.proofs.lemmas.List.{drop_more}
use Rattle.std.proofs.lemmas.Slice.Zip.{Zip-more, either_empty_from_Zip}
use Rattle.std.specs.Iterator.Adapters.{enumerate_count, enumerate_source, enumerate_steps, zip_first, zip_second}
use Rattle.std.specs.Slice.Iter.{iter_rest}
use Rattle.std.specs.declared.iter.Enumerate.{Enumerate}
use Rattle.std.specs.declared.iter.Zip.{Zip}
use Rattle.std.specs.declared.slice.Iter.{Iter}
use Rattle.nodes.specs.declared.edge.Edge.{Edge}
use Rattle.store.specs.Stores.{none_edge}

-- what is left of the two lists
pub record Ahead (es fs : List Edge) (s : Enumerate (Zip (Iter Edge) (Iter Edge))) : Type 0 where
  pub left : iter_rest (zip_first (enumerate_source s)) ≡ drop (enumerate_count s) es
  pub right : iter_rest (zip_second (enumerate_source s)) ≡ drop (enumerate_count s) fs
  pub alike : length fs ≡ length es
  pub most : enumerate_count s ≤ length es

front : (es : List Edge) (i : ℕ) (x : Edge) (r : List Edge) → x ∷ r ≡ drop i es → (i < length es) × (x ≡ get_or es i none_edge) × (r ≡ drop (i + 1) es)
front es i x r h =
    let lt : i < length es = omega (arith, ap length h, length-drop i es) in
    let e = h ∙ drop_more es i none_edge lt in
    (lt, ap (λ t. get_or t 0 none_edge) e, ap (drop 1) e)

-- the next pair p, the i-th
pub record Turn (es fs : List Edge) (s t : Enumerate (Zip (Iter Edge) (Iter Edge))) (i : ℕ) (p : Bor Edge × Bor Edge) : Type 0 where
  pub at : i ≡ enumerate_count s
  pub below : i < length es
  pub left : p.0.now ≡ get_or es i none_edge
  pub right : p.1.now ≡ get_or fs i none_edge
  pub count : enumerate_count t ≡ i + 1
  pub ahead : Ahead es fs t

pub turn : {es fs : List Edge} {s t : Enumerate (Zip (Iter Edge) (Iter Edge))} {r : Option (ℕ × (Bor Edge × Bor Edge))} {i : ℕ} {p : Bor Edge × Bor Edge} → Ahead es fs s → r ≡ Some (i, p) → enumerate_steps (zips fronts fronts) s r t → Turn es fs s t i p
turn {es} {fs} {s} {t} {r} {i} {p} ahead is steps =
    let got = subst (λ (o : Option (ℕ × (Bor Edge × Bor Edge))). enumerate_steps (zips fronts fronts) s o t) is steps in
    let more = Zip-more (enumerate_source s) (enumerate_source t) (Some p) p refl got.0 in
    let at : i ≡ enumerate_count s = got.1 in
    let x = front es i p.0.now _ (sym more.0 ∙ ahead.left ∙ ap (λ k. drop k es) (sym at)) in
    let y = front fs i p.1.now _ (sym more.1 ∙ ahead.right ∙ ap (λ k. drop k fs) (sym at)) in
    let count : enumerate_count t ≡ i + 1 = got.2 ∙ ap (λ k. k + 1) (sym at) in
    record {
      at = at;
      below = x.0;
      left = x.1;
      right = y.1;
      count = count;
      ahead = record {
        left = x.2 ∙ ap (λ k. drop k es) (sym count);
        right = y.2 ∙ ap (λ k. drop k fs) (sym count);
        alike = ahead.alike;
        most = omega (arith, count, x.0);
      };
    }

-- and none
pub ended : {es fs : List Edge} {s : Enumerate (Zip (Iter Edge) (Iter Edge))} (t : Enumerate (Zip (Iter Edge) (Iter Edge))) {r : Option (ℕ × (Bor Edge × Bor Edge))} → Ahead es fs s → r ≡ None → enumerate_steps (zips fronts fronts) s r t → enumerate_count s ≡ length es
ended {es} {fs} {s} t {r} ahead is steps =
    let got = subst (λ (o : Option (ℕ × (Bor Edge × Bor Edge))). enumerate_steps (zips fronts fronts) s o t) is steps in
    elim (either_empty_from_Zip (enumerate_source s) (enumerate_source t) None refl got.0) [
      | inl e ↦ omega (arith, ahead.most, ap length (sym e ∙ ahead.left), length-drop (enumerate_count s) es)
      | inr e ↦ omega (arith, ahead.most, ahead.alike, ap length (sym e ∙ ahead.right), length-drop (enumerate_count s) fs)
    ]
