-- One cue more. Assumes nothing.
use Rattle.std.proofs.Common.{◌≡◌, ℕ, zero, suc, ◌+◌, ◌<◌, ◌≤◌, List, [], ◌∷◌, ◌++◌, length, get_or, take, drop, set, Some, None, sym, refl, ap, ◌∙◌, subst, arith}
use Rattle.std.proofs.lemmas.List.{drop_more, take_more, take_more_set, take_all, drop-set-lt}
use Rattle.model.specs.Shelves.{Meaning}
use Rattle.show.specs.declared.cue.Cue.{Cue}
use Rattle.model.specs.Contents.{Contents}
use Rattle.show.proofs.Agreements.{plans_agree}
use Rattle.show.specs.Shows.{altered, altered_by, Answered, EachAnswered, Played}

module _ {S : Type 0} where
  -- each cue is answered on what the calls before it left
  abbrev pub AllAnswered : (S → Meaning) → Contents → List (Cue S) → List (Cue S) → Type 0
  AllAnswered meaning c [] [] = Unit {0}
  AllAnswered meaning c [] (y ∷ ys) = ⊥
  AllAnswered meaning c (x ∷ xs) [] = ⊥
  AllAnswered meaning c (x ∷ xs) (y ∷ ys) = Answered meaning c x y × AllAnswered meaning (altered c x) xs ys

  -- some cues are played
  pub record Done (meaning : S → Meaning) (c : Contents) (xs ys : List (Cue S)) (d : Contents) : Type 0 where
    pub answers : AllAnswered meaning c xs ys
    pub leaves : d ≡ altered_by c xs

module _ {S : Type 0} (meaning : S → Meaning) where
  pub altered_push : (c : Contents) (xs : List (Cue S)) (x : Cue S) → altered_by c (xs ++ x ∷ []) ≡ altered (altered_by c xs) x
  altered_push c [] x = refl
  altered_push c (z ∷ xs) x = altered_push (altered c z) xs x

  pub answered_push : (c : Contents) (xs ys : List (Cue S)) (x y : Cue S) → AllAnswered meaning c xs ys → Answered meaning (altered_by c xs) x y → AllAnswered meaning c (xs ++ x ∷ []) (ys ++ y ∷ [])
  answered_push c [] [] x y h a = (a, tt)
  answered_push c [] (w ∷ ys) x y h a = absurd h
  answered_push c (z ∷ xs) [] x y h a = absurd h
  answered_push c (z ∷ xs) (w ∷ ys) x y h a = (h.0, answered_push (altered c z) xs ys x y h.1 a)

  as_many : (c : Contents) (xs ys : List (Cue S)) → AllAnswered meaning c xs ys → length ys ≡ length xs
  as_many c [] [] h = refl
  as_many c [] (y ∷ ys) h = absurd h
  as_many c (x ∷ xs) [] h = absurd h
  as_many c (x ∷ xs) (y ∷ ys) h = ap suc (as_many (altered c x) xs ys h.1)

  none_some : {X : Type 0} {x : X} → None ≡ Some x → ⊥
  none_some e = let z : ◌≡◌ {A = ℕ} 0 1 = cc in absurd (omega arith)

  some_same : {X : Type 0} {x y : X} → Some x ≡ Some y → x ≡ y
  some_same e = cc

  each : (c : Contents) (xs ys : List (Cue S)) → AllAnswered meaning c xs ys → EachAnswered meaning c xs ys
  each c [] ys h k x e = absurd (none_some e)
  each c (z ∷ xs) [] h k x e = absurd h
  each c (z ∷ xs) (y ∷ ys) h zero x e = (y, refl, subst (λ (v : Cue S). Answered meaning c v y) (some_same e) h.0)
  each c (z ∷ xs) (y ∷ ys) h (suc k) x e = each (altered c z) xs ys h.1 k x e

  -- one cue more is answered
  pub played_more : (c d e : Contents) (xs zs : List (Cue S)) (i : ℕ) (v y : Cue S) → i < length xs → i < length zs → Done meaning c (take i xs) (take i zs) d → drop i zs ≡ drop i xs → Answered meaning d (get_or zs i v) y → e ≡ altered d (get_or zs i v) → Done meaning c (take (i + 1) xs) (take (i + 1) (set zs i y)) e × (drop (i + 1) (set zs i y) ≡ drop (i + 1) xs)
  played_more c d e xs zs i v y lx lz p rest a left =
      let x = get_or zs i v in
      let dz = drop_more zs i v lz in
      let dx = drop_more xs i v lx in
      let same : get_or zs i v ≡ get_or xs i v = cc in
      let tail : drop (i + 1) zs ≡ drop (i + 1) xs = cc in
      let tx : take (i + 1) xs ≡ take i xs ++ x ∷ [] = take_more xs i v lx ∙ ap (λ (v : Cue S). take i xs ++ v ∷ []) (sym same) in
      let ty : take (i + 1) (set zs i y) ≡ take i zs ++ y ∷ [] = take_more_set zs i y lz in
      let at : Answered meaning (altered_by c (take i xs)) x y = subst (λ (k : Contents). Answered meaning k x y) p.leaves a in (
        record {
          answers = rw (tx, ty) (answered_push c (take i xs) (take i zs) x y p.answers at);
          leaves = left ∙ ap (λ (k : Contents). altered k x) p.leaves ∙ sym (altered_push c (take i xs) x) ∙ ap (altered_by c) (sym tx);
        },
        drop-set-lt (i + 1) zs i y (omega arith) ∙ tail,
      )

  pub played_all : (c d : Contents) (xs zs : List (Cue S)) (i : ℕ) → length xs ≤ i → length zs ≤ i → Done meaning c (take i xs) (take i zs) d → Played meaning c xs zs d
  played_all c d xs zs i lx lz p =
      let tx = take_all i xs lx in
      let tz = take_all i zs lz in
      let all = rw (tx, tz) at p.answers in
      record { as_many = as_many c xs zs all; each = each c xs zs all; leaves = p.leaves ∙ ap (altered_by c) tx; agree = plans_agree }
