-- The walk of the smallest numbers. Assumes nothing.
use Rattle.std.proofs.Common.{◌≡◌, ℕ, zero, suc, ◌+◌, ◌<◌, ◌≤◌, Bool, true, false, cond, eqb, ◌⊎◌, List, [], ◌∷◌, length, get_or, take, Some, None, Option, sym, refl, ap, ◌∙◌, subst, inl, inr, ⊎_elim, arith}
use Rattle.std.proofs.lemmas.Bool.{cases_order, eqb-true, eqb-false, ne_eqb, false≢true, cases_eq, cond-true, cond-false}
use Rattle.model.specs.Scenes.{Shape, Scene, SceneOf}
use Rattle.model.specs.Charts.{Time}
use Rattle.theory.specs.Actions.{Action, Table, numbered, LawfulTable, Run}
use Rattle.theory.specs.Iteration.{later, through, Right}
use Rattle.theory.specs.Walks.{Before, Smaller, BeforeTold, Greedy, is_time, one_more, first, led, given, walk, Found, FirstFound, ZeroWanted, WalkRight, WalkFound}
use Rattle.theory.proofs.Times.{AtMost, some_is, none_is_not, takes, reached, most}

same_action : (a k : Action) → Some a ≡ Some k → a ≡ k
same_action a k e = cc

-- the action a, taken at s, leads to a scene of time u
abbrev Tight : Action → (Scene → Time) → Scene → ℕ → Type 0
Tight a v s t = (a.applicable s ≡ true) × (u : ℕ) × (v (a.next s) ≡ Some u) × (t ≡ a.cost s + u)

tight : (a : Action) (v : Scene → Time) (s : Scene) (t : ℕ) → through (Some a) v s ≡ Some t → Tight a v s t
tight a v s t e =
    let k = takes (Some a) v s t e in
    subst (λ x. Tight x v s t) (sym (same_action a k.action k.there)) (k.may, k.rest, k.then, k.total)

loose : (a : Action) (v : Scene → Time) (s : Scene) (t : ℕ) → Tight a v s t → through (Some a) v s ≡ Some t
loose a v s t h =
    cond-true (a.applicable s) (later (a.cost s) (v (a.next s))) None h.0 ∙ ap (later (a.cost s)) h.2 ∙ ap Some (sym h.3)

exact : (o : Time) (u : ℕ) → AtMost o u → ((w : ℕ) → o ≡ Some w → u ≤ w) → o ≡ Some u
exact None u h k = absurd h
exact (Some a) u h k = let e : a ≡ u = omega (arith, k a refl) in ap Some e

module _ (ns : Shape) (acts : Table) (goal : Scene → Bool) (law : LawfulTable ns acts) (v : Scene → Time) (f : Right ns acts goal v) where
  below : (s : Scene) → SceneOf ns s → (t : ℕ) → v s ≡ Some t → (js : List ℕ) (u : ℕ) → Run acts goal js s u → t ≤ u
  below s l t e js u run = subst (λ o. AtMost o u) e (most _ _ (f s l) js u run)

  -- along a run of the least time each action is tight
  on_the_way : (s : Scene) → SceneOf ns s → (t : ℕ) → v s ≡ Some t → (j : ℕ) (js : List ℕ) (run : Run acts goal (j ∷ js) s t) → v (run.0.next s) ≡ Some run.3
  on_the_way s l t e j js run =
      let on : SceneOf ns (run.0.next s) = (law j run.0 run.1).keeps s l run.2 in
      exact _ _ (most _ _ (f (run.0.next s) on) js run.3 run.4) (λ w g.
      let rest = reached _ _ (f (run.0.next s) on) w g in
      omega (arith, run.5, below s l t e (j ∷ rest.0) (run.0.cost s + w) (run.0, run.1, run.2, w, rest.1, refl)))

  ends : (s : Scene) → SceneOf ns s → (js : List ℕ) → Run acts goal js s 0 → goal s ≡ true
  ends s l [] run = run.0
  ends s l (j ∷ js) run = absurd (omega (arith, run.5, (law j run.0 run.1).some s l))

  pub greedy_runs : (path : List ℕ) (s : Scene) → SceneOf ns s → (t : ℕ) → v s ≡ Some t → Greedy acts v path s → Run acts goal path s t
  greedy_runs [] s l t e g =
      let run = reached _ _ (f s l) 0 g in
      (ends s l run.0 run.1, some_is t 0 (sym e ∙ g))
  greedy_runs (i ∷ path) s l t e g =
      let k = tight g.0 v s t (g.2 ∙ e) in
      (g.0, g.1, k.0, k.1, greedy_runs path (g.0.next s) ((law i g.0 g.1).keeps s l k.0) k.1 k.2 g.4, k.3)

  pub greedy_first : (path : List ℕ) (s : Scene) → SceneOf ns s → (t : ℕ) → v s ≡ Some t → Greedy acts v path s → (js : List ℕ) → Run acts goal js s t → Before path js
  greedy_first [] s l t e g [] run = tt
  greedy_first [] s l t e g (j ∷ js) run = absurd (omega (arith, run.5, some_is t 0 (sym e ∙ g), (law j run.0 run.1).some s l))
  greedy_first (i ∷ path) s l t e g [] run =
      let k = tight g.0 v s t (g.2 ∙ e) in
      absurd (omega (arith, run.1, k.3, (law i g.0 g.1).some s l))
  greedy_first (i ∷ path) s l t e g (j ∷ js) run =
      let k = tight g.0 v s t (g.2 ∙ e) in
      let way = on_the_way s l t e j js run in
      let also : through (numbered acts j) v s ≡ v s = ap (λ o. through o v s) run.1 ∙ loose run.0 v s t (run.2, run.3, way, run.5) ∙ sym e in
      ⊎_elim
      (λ same.
      let one : run.0 ≡ g.0 = same_action _ _ (sym run.1 ∙ ap (numbered acts) (sym same) ∙ g.1) in
      inr (
        same,
        greedy_first path (g.0.next s) ((law i g.0 g.1).keeps s l k.0) run.3
            (subst (λ a. v (a.next s) ≡ Some run.3) one way) g.4 js (subst (λ a. Run acts goal js (a.next s) run.3) one run.4),
      ))
      (λ apart. ⊎_elim (λ less. inl less) (λ more. absurd (g.3 j more also)) apart)
      (cases_order i j)

pub walk_right : WalkRight
walk_right ns acts goal law v f s l t e path g = (greedy_runs ns acts goal law v f path s l t e g, greedy_first ns acts goal law v f path s l t e g)

pub zero_wanted : ZeroWanted
zero_wanted ns acts goal law v f s l = (
  λ e. let run = reached _ _ (f s l) 0 e in ends ns acts goal law v f s l run.0 run.1,
  λ w. ((f s l).finite 0).1 (record { witness = []; passes = (w, refl); below = λ is u p. omega arith }),
)

found_on : (a : Option Action) (acts : Table) (v : Scene → Time) (s : Scene) (t : ℕ) (o : Time) → (through a v s ≡ Some t → ⊥) → Found acts v s t o → Found (a ∷ acts) v s t (one_more o)
found_on a acts v s t None n h = elim [ zero ↦ n | suc j ↦ h j ]
found_on a acts v s t (Some i) n h = (h.0, elim [ zero ↦ λ _. n | suc j ↦ λ less. h.1 j (omega arith) ])

is_true : (o : Time) (t : ℕ) → is_time o t ≡ true → o ≡ Some t
is_true None t e = absurd (false≢true e)
is_true (Some a) t e = ap Some (eqb-true a t e)

is_false : (o : Time) (t : ℕ) → is_time o t ≡ false → o ≡ Some t → ⊥
is_false None t e g = none_is_not t g
is_false (Some a) t e g = eqb-false a t e (some_is a t g)

pub first_found : FirstFound
first_found [] v s t = λ j e. none_is_not t e
first_found (a ∷ acts) v s t = go (is_time (through a v s) t) refl (first_found acts v s t)
  where
    go : (b : Bool) → is_time (through a v s) t ≡ b → Found acts v s t (first acts v s t) → Found (a ∷ acts) v s t (cond b (Some 0) (one_more (first acts v s t)))
    go true e h = (is_true _ t e, λ j less. absurd (omega arith))
    go false e h = found_on a acts v s t (first acts v s t) (is_false _ t e) h

walk_stops : (acts : Table) (v : Scene → Time) (n : ℕ) (s : Scene) → v s ≡ Some 0 → walk acts v n s ≡ []
walk_stops acts v zero s e = refl
walk_stops acts v (suc n) s e = ap (λ o. given o (λ t. cond (eqb t 0) [] (given (first acts v s t) (λ i. i ∷ walk acts v n (led (numbered acts i) s))))) e

walk_goes : (acts : Table) (v : Scene → Time) (n : ℕ) (s : Scene) (t i : ℕ) (a : Action) → v s ≡ Some t → (t ≡ 0 → ⊥) → first acts v s t ≡ Some i → numbered acts i ≡ Some a →
    walk acts v (suc n) s ≡ i ∷ walk acts v n (a.next s)
walk_goes acts v n s t i a e more at_i there =
    ap (λ o. given o (λ t. cond (eqb t 0) [] (given (first acts v s t) (λ i. i ∷ walk acts v n (led (numbered acts i) s))))) e
    ∙ cond-false (eqb t 0) _ _ (ne_eqb t 0 more)
    ∙ ap (λ o. given o (λ i. i ∷ walk acts v n (led (numbered acts i) s))) at_i
    ∙ ap (λ o. i ∷ walk acts v n (led o s)) there

module _ (ns : Shape) (acts : Table) (goal : Scene → Bool) (law : LawfulTable ns acts) (v : Scene → Time) (f : Right ns acts goal v) where
  -- some slot is tight at a scene that is not yet there
  some_slot : (s : Scene) → SceneOf ns s → (t : ℕ) → v s ≡ Some t → (t ≡ 0 → ⊥) → (js : List ℕ) → Run acts goal js s t → (j : ℕ) × (through (numbered acts j) v s ≡ Some t)
  some_slot s l t e more [] run = absurd (more run.1)
  some_slot s l t e more (j ∷ js) run =
      (j, ap (λ o. through o v s) run.1 ∙ loose run.0 v s t (run.2, run.3, on_the_way ns acts goal law v f s l t e j js run, run.5))

  pub walk_greedy : (n : ℕ) (s : Scene) → SceneOf ns s → (t : ℕ) → v s ≡ Some t → t ≤ n → Greedy acts v (walk acts v n s) s
  walk_greedy zero s l t e h = let z : t ≡ 0 = omega arith in e ∙ ap Some z
  walk_greedy (suc n) s l t e h =
      ⊎_elim
      (λ z. let done = e ∙ ap Some z in subst (λ p. Greedy acts v p s) (sym (walk_stops acts v (suc n) s done)) done)
      (λ more. go more (first acts v s t) refl (first_found acts v s t) (λ a keeps u g le. walk_greedy n (a.next s) keeps u g le))
      (cases_eq t 0)
    where
      go : (t ≡ 0 → ⊥) → (o : Time) → first acts v s t ≡ o → Found acts v s t o →
          ((a : Action) → SceneOf ns (a.next s) → (u : ℕ) → v (a.next s) ≡ Some u → u ≤ n → Greedy acts v (walk acts v n (a.next s)) (a.next s)) → Greedy acts v (walk acts v (suc n) s) s
      go more None at_o found ih =
          let run = reached _ _ (f s l) t e in
          let j = some_slot s l t e more run.0 run.1 in
          absurd (found j.0 j.1)
      go more (Some i) at_o found ih =
          let k = takes (numbered acts i) v s t found.0 in
          let ok = law i k.action k.there in
          subst (λ p. Greedy acts v p s) (sym (walk_goes acts v n s t i k.action e more at_o k.there)) (
            k.action,
            k.there,
            ap (λ o. through o v s) (sym k.there) ∙ found.0 ∙ sym e,
            λ j less same. found.1 j less (same ∙ e),
            ih k.action (ok.keeps s l k.may) k.rest k.then (omega (arith, k.total, ok.some s l)),
          )

pub walk_found : WalkFound
walk_found ns acts goal law v f s l t e = walk_greedy ns acts goal law v f t s l t e (omega arith)

-- The order of two lists, told by the place where they first differ

one_on : (i : ℕ) (is js : List ℕ) → Smaller is js → Smaller (i ∷ is) (i ∷ js)
one_on i is js h =
    record { place = suc h.place; in_first = omega (arith, h.in_first); in_second = omega (arith, h.in_second); same = ap (λ xs. i ∷ xs) h.same; smaller = h.smaller }

before_tells : (is js : List ℕ) → Before is js → (is ≡ js) ⊎ Smaller is js
before_tells [] [] h = inl refl
before_tells [] (j ∷ js) h = absurd h
before_tells (i ∷ is) [] h = absurd h
before_tells (i ∷ is) (j ∷ js) h =
    ⊎_elim
    (λ less. inr (record { place = 0; in_first = omega arith; in_second = omega arith; same = refl; smaller = less }))
    (λ on.
    let go : (is ≡ js) ⊎ Smaller is js → (i ∷ is ≡ j ∷ js) ⊎ Smaller (i ∷ is) (j ∷ js) =
    λ o. ⊎_elim (λ e. inl (λ k. on.0 k ∷ e k)) (λ less. inr (subst (λ x. Smaller (i ∷ is) (x ∷ js)) on.0 (one_on i is js less))) o in
    go (before_tells is js on.1))
    h

before_self : (is : List ℕ) → Before is is
before_self [] = tt
before_self (i ∷ is) = inr (refl, before_self is)

before_smaller : (is js : List ℕ) (k : ℕ) → k < length is → k < length js → take k is ≡ take k js → get_or is k 0 < get_or js k 0 → Before is js
before_smaller [] js k a b e h = absurd (omega arith)
before_smaller (i ∷ is) [] k a b e h = absurd (omega arith)
before_smaller (i ∷ is) (j ∷ js) zero a b e h = inl h
before_smaller (i ∷ is) (j ∷ js) (suc k) a b e h =
    let here : i ≡ j = cc in
    let on : take k is ≡ take k js = cc in
    inr (here, before_smaller is js k (omega arith) (omega arith) on h)

pub before_told : BeforeTold
before_told is js = (
  before_tells is js,
  λ o. ⊎_elim (λ e. subst (Before is) e (before_self is)) (λ h. before_smaller is js h.place h.in_first h.in_second h.same h.smaller) o,
)
