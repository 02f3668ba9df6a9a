-- Steps one after another. Assumes nothing.
use Rattle.std.proofs.Common.{◌≡◌, ℕ, ◌+◌, ◌<◌, ◌≤◌, List, [], ◌∷◌, ◌++◌, length, get_or, drop, IsErrAnd, Ok, Err, Option, Result, sym, refl, ap, ◌∙◌, subst, arith}
use Rattle.std.proofs.lemmas.List.{drop_more, drop_all}
use Rattle.model.specs.Refusals.{left_by}
use Rattle.model.specs.Shelves.{Meaning, Call, does, done}
use Rattle.rule.specs.Steps.{Step, marked}
use Rattle.steps.specs.declared.halt.Halt.{Halt}
use Rattle.steps.specs.declared.round.Round.{Round}
use Rattle.steps.specs.Faults.{Stop, OfHalt}
use Rattle.steps.specs.Ends.{stopped, ends, leaves, Ended, Hung, Took}

-- from m these steps are left to make of all those that were to be made from the start
pub record Onward (start : Meaning) (all : List Step) (m : Meaning) (rest : List Step) : Type 0 where
  pub answer : ends start all ≡ ends m rest
  pub left : leaves start all ≡ leaves m rest

pub onward_none : (m : Meaning) (xs : List Step) → Onward m xs m xs
onward_none m xs = record { answer = refl; left = refl }

pub err_is_not_ok : {X E : Type 0} (e : E) (x : X) → Err e ≡ Ok x → ⊥
err_is_not_ok e x h = let z : ◌≡◌ {A = ℕ} 0 1 = cc in absurd (omega arith)

-- steps that are all accepted, and more steps
pub goes_on : (m : Meaning) (xs ys : List Step) → ends m xs ≡ Ok tt → Onward m (xs ++ ys) (leaves m xs) ys
goes_on m [] ys e = onward_none m ys
goes_on m (x ∷ xs) ys e =
    let both = go (done m x.call) (does m x.call) (goes_on (done m x.call) xs ys) e in
    record { answer = both.0; left = both.1 }
  where
    go : (k : Meaning) (r : Result (Unit {0}) ℕ) → (ends k xs ≡ Ok tt → Onward k (xs ++ ys) (leaves k xs) ys) → stopped r x (ends k xs) ≡ Ok tt →
        (stopped r x (ends k (xs ++ ys)) ≡ ends (left_by r (leaves k xs) m) ys) × (left_by r (leaves k (xs ++ ys)) m ≡ leaves (left_by r (leaves k xs) m) ys)
    go k (Ok _) f h = let n = f h in (n.answer, n.left)
    go k (Err n) f h = absurd (err_is_not_ok _ _ h)

-- steps of which one is refused, and more steps
pub stays : (m : Meaning) (xs ys : List Step) (s : Stop) → ends m xs ≡ Err s → (ends m (xs ++ ys) ≡ Err s) × (leaves m (xs ++ ys) ≡ leaves m xs)
stays m [] ys s e = absurd (err_is_not_ok _ _ (sym e))
stays m (x ∷ xs) ys s e = go (done m x.call) (does m x.call) (stays (done m x.call) xs ys s) e
  where
    go : (k : Meaning) (r : Result (Unit {0}) ℕ) → (ends k xs ≡ Err s → (ends k (xs ++ ys) ≡ Err s) × (leaves k (xs ++ ys) ≡ leaves k xs)) → stopped r x (ends k xs) ≡ Err s →
        (stopped r x (ends k (xs ++ ys)) ≡ Err s) × (left_by r (leaves k (xs ++ ys)) m ≡ left_by r (leaves k xs) m)
    go k (Ok _) f h = f h
    go k (Err n) f h = (h, refl)

module _ {start : Meaning} {all : List Step} {m : Meaning} where
  -- the next of them were accepted
  pub more : {X E : Type 0} (Of : E → Stop → Type 0) (xs ys : List Step) (n : Meaning) (x : X) → Onward start all m (xs ++ ys) → Ended {X = X} Of m xs (Ok x) n → Onward start all n ys
  more Of xs ys n x w e =
      let k = goes_on m xs ys e.0 in
      record { answer = w.answer ∙ k.answer ∙ ap (λ j. ends j ys) (sym e.1); left = w.left ∙ k.left ∙ ap (λ j. leaves j ys) (sym e.1) }

  -- one of the next was refused
  pub halt : (X : Type 0) {E F : Type 0} (Of : E → Stop → Type 0) (Or : F → Stop → Type 0) (xs ys : List Step) (n : Meaning) (e : E) (f : F) → ((s : Stop) → Of e s → Or f s) → Onward start all m (xs ++ ys) →
      Ended {X = X} Of m xs (Err e) n → Ended {X = X} Or start all (Err f) n
  halt X Of Or xs ys n e f to w h =
      let k = stays m xs ys h.0 h.2 in
      (h.0, to h.0 h.1, w.answer ∙ k.0, h.3 ∙ sym (w.left ∙ k.1))

-- none is left
pub all_made : {start : Meaning} {all : List Step} {m : Meaning} → Onward start all m [] → (ends start all ≡ Ok tt) × (m ≡ leaves start all)
all_made w = (w.answer, sym w.left)

-- the rest ends somehow
pub rest_made : {start : Meaning} {all : List Step} {m : Meaning} {X E : Type 0} (Of : E → Stop → Type 0) (xs : List Step) (n : Meaning) (r : Result X E) → Onward start all m xs → Ended Of m xs r n → Ended Of start all r n
rest_made Of xs n (Ok x) w h = (w.answer ∙ h.0, h.1 ∙ sym w.left)
rest_made Of xs n (Err e) w h = (h.0, h.1, w.answer ∙ h.2, h.3 ∙ sym w.left)

-- Calls of one round

pub marked_append : (r : ℕ) (o : Option ℕ) (xs ys : List Call) → marked r o (xs ++ ys) ≡ marked r o xs ++ marked r o ys
marked_append r o [] ys = refl
marked_append r o (x ∷ xs) ys = ap (λ zs. record { round = r; move = o; call = x } ∷ zs) (marked_append r o xs ys)

module _ (m n : Meaning) (round : ℕ) (xs ys : List Call) where
  hung_then : (k : Meaning) (r : Result (Unit {0}) Halt) → Hung m round xs (Ok tt) n → Hung n round ys r k → Hung m round (xs ++ ys) r k
  hung_then k r h j o =
      subst (λ zs. Ended (OfHalt o) m zs r k) (sym (marked_append round o xs ys))
      (rest_made (OfHalt o) (marked round o ys) k r (more {X = Unit {0}} (OfHalt o) (marked round o xs) (marked round o ys) n tt (onward_none m (marked round o xs ++ marked round o ys)) (h o)) (j o))

  hung_broken : (e f : Halt) → f ≡ e → Hung m round xs (Err e) n → Hung m round (xs ++ ys) (Err f) n
  hung_broken e f same h o =
      subst (λ zs. Ended {X = Unit {0}} (OfHalt o) m zs (Err f) n) (sym (marked_append round o xs ys))
      (halt (Unit {0}) (OfHalt o) (OfHalt o) (marked round o xs) (marked round o ys) n e f (λ s k. subst (λ g. OfHalt o g s) (sym same) k) (onward_none m (marked round o xs ++ marked round o ys)) (h o))

module _ {S : Type 0} {meaning : S → Meaning} where
  -- no calls
  pub took_none : (a : Round S) → Took meaning a [] (Ok tt) a
  took_none a = record { ended = λ o. (refl, refl); number = refl; shelf = refl }

  -- calls that are all accepted, and more calls
  pub took_then : {xs ys : List Call} {a b c : Round S} {r : Result (Unit {0}) Halt} → Took meaning a xs (Ok tt) b → Took meaning b ys r c → Took meaning a (xs ++ ys) r c
  took_then {xs} {ys} {a} {b} {c} {r} h j =
      record {
        ended = hung_then (meaning a.shelf.now) (meaning b.shelf.now) a.number xs ys (meaning c.shelf.now) r h.ended (subst (λ k. Hung (meaning b.shelf.now) k ys r (meaning c.shelf.now)) h.number j.ended);
        number = j.number ∙ h.number;
        shelf = j.shelf ∙ h.shelf;
      }

  -- calls of which one is refused, and more calls: the exit of a `?`
  pub took_broken : {xs : List Call} (ys : List Call) {a b : Round S} {e : Halt} (r : Result (Unit {0}) Halt) → IsErrAnd r (λ y. y ≡ e) → Took meaning a xs (Err e) b → Took meaning a (xs ++ ys) r b
  took_broken ys (Ok x) is h = absurd is
  took_broken {xs} ys {a} {b} {e} (Err f) is h = record { ended = hung_broken (meaning a.shelf.now) (meaning b.shelf.now) a.number xs ys e f is h.ended; number = h.number; shelf = h.shelf }

-- from now these calls are left to make of all those that were to be made from the start
pub record Along {S : Type 0} (meaning : S → Meaning) (start : Round S) (all : List Call) (now : Round S) (rest : List Call) : Type 0 where
  pub onward : {r : Result (Unit {0}) Halt} {after : Round S} → Took meaning now rest r after → Took meaning start all r after

module _ {S : Type 0} {meaning : S → Meaning} {start now : Round S} {all : List Call} where
  -- the next of them were accepted
  pub along_then : {xs ys : List Call} {next : Round S} → Along meaning start all now (xs ++ ys) → Took meaning now xs (Ok tt) next → Along meaning start all next ys
  along_then w h = record { onward = λ k. w.onward (took_then h k) }

  -- the calls of the next of a list
  pub along_item : {X : Type 0} (block : List X → List Call) (xs : List X) (i : ℕ) (d x : X) → x ≡ get_or xs i d → i < length xs → Along meaning start all now (block (drop i xs)) →
      Along meaning start all now (block (x ∷ drop (i + 1) xs))
  along_item block xs i d x is h w = subst (λ ys. Along meaning start all now (block ys)) (drop_more xs i d h ∙ ap (λ z. z ∷ drop (i + 1) xs) (sym is)) w

  -- the list is through
  pub along_end : {X : Type 0} (block : List X → List Call) (xs : List X) (i : ℕ) → block [] ≡ [] → length xs ≤ i → Along meaning start all now (block (drop i xs)) → Took meaning start all (Ok tt) now
  along_end block xs i none h w = let v = subst (λ ys. Along meaning start all now ys) (ap block (drop_all i xs h) ∙ none) w in v.onward (took_none now)
