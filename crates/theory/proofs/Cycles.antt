-- A run with no scene twice is short, so the rounds stop and the times stay small. Assumes nothing.
use Rattle.std.proofs.Common.{◌≡◌, ℕ, zero, suc, ◌+◌, ◌*◌, ◌<◌, ◌≤◌, Bool, ◌⊎◌, List, [], ◌∷◌, map, length, Some, sym, refl, ap, ◌∙◌, subst, inl, inr, ⊎_elim, mul-le-mul_right, arith}
use Rattle.std.specs.List.{AllByRecursion}
use Rattle.std.proofs.lemmas.Bool.{cases_eq}
use Rattle.model.specs.Limits.{most_tenths}
use Rattle.model.specs.Scenes.{Shape, Scene, SceneOf, size, scenes, rank}
use Rattle.model.specs.Charts.{Time, at}
use Rattle.model.proofs.Ranks.{rank_less, rank_one, tabulated, tabulated_as}
use Rattle.theory.specs.Actions.{Table, LawfulTable, Run}
use Rattle.theory.specs.Stops.{RoundsStop, TimesBounded, ChartsRight}
use Rattle.theory.proofs.Times.{AtMost, of_some, no_later, same_times, relax_keeps, now, next_round, sound, whole, settled_right}

-- numbers that are all different, and below n, are at most n
abbrev pub Absent : ℕ → List ℕ → Type 0
Absent x = AllByRecursion (λ y. x ≡ y → ⊥)

abbrev pub Distinct : List ℕ → Type 0
Distinct [] = Unit {0}
Distinct (x ∷ xs) = Absent x xs × Distinct xs

abbrev Below : ℕ → List ℕ → Type 0
Below n = AllByRecursion (λ x. x < n)

-- n is absent
below_less : (n : ℕ) (xs : List ℕ) → Absent n xs → Below (suc n) xs → Below n xs
below_less n [] a b = tt
below_less n (x ∷ xs) a b =
    let other = a.0 in
    let less : x < suc n = b.0 in
    (⊎_elim (λ e. absurd (other e)) (λ ne. omega arith) (cases_eq n x), below_less n xs a.1 b.1)

-- what is left without n
record Thinned (n : ℕ) (xs : List ℕ) : Type 0 where
  rest : List ℕ
  apart : Distinct rest
  below : Below n rest
  long : length xs ≤ suc (length rest)
  absent : (x : ℕ) → Absent x xs → Absent x rest

thinned : (n : ℕ) (xs : List ℕ) → Distinct xs → Below (suc n) xs → Thinned n xs
thinned n [] d b = record { rest = []; apart = tt; below = tt; long = omega arith; absent = λ x a. tt }
thinned n (x ∷ xs) d b =
    let less : x < suc n = b.0 in
    ⊎_elim
    (λ e. record { rest = xs; apart = d.1; below = below_less n xs (subst (λ y. Absent y xs) (sym e) d.0) b.1; long = omega arith; absent = λ y a. a.1 })
    (λ ne.
    let old = thinned n xs d.1 b.1 in
    record { rest = x ∷ old.rest; apart = (old.absent x d.0, old.apart); below = (omega arith, old.below); long = omega (arith, old.long); absent = λ y a. (a.0, old.absent y a.1) })
    (cases_eq n x)

few : (n : ℕ) (xs : List ℕ) → Distinct xs → Below n xs → length xs ≤ n
few zero [] d b = omega arith
few zero (x ∷ xs) d b = absurd (omega (arith, b.0))
few (suc n) xs d b = let t = thinned n xs d b in omega (arith, few n t.rest t.apart t.below, t.long)

module _ (ns : Shape) (acts : Table) (goal : Scene → Bool) (law : LawfulTable ns acts) where
  -- the places of the scenes that a run visits
  abbrev pub trail : (is : List ℕ) (s : Scene) (t : ℕ) → Run acts goal is s t → List ℕ
  trail [] s t run = rank ns s ∷ []
  trail (i ∷ is) s t run = rank ns s ∷ trail is (run.0.next s) run.3 run.4

  trail_length : (is : List ℕ) (s : Scene) (t : ℕ) (run : Run acts goal is s t) → length (trail is s t run) ≡ suc (length is)
  trail_length [] s t run = refl
  trail_length (i ∷ is) s t run = ap suc (trail_length is (run.0.next s) run.3 run.4)

  trail_below : (is : List ℕ) (s : Scene) (t : ℕ) (run : Run acts goal is s t) → SceneOf ns s → Below (size ns) (trail is s t run)
  trail_below [] s t run l = (rank_less ns s l, tt)
  trail_below (i ∷ is) s t run l = (rank_less ns s l, trail_below is (run.0.next s) run.3 run.4 ((law i run.0 run.1).keeps s l run.2))

  -- a run from s with no scene twice, no slower than t, of at most k moves
  pub record Simple (s : Scene) (t k : ℕ) : Type 0 where
    pub path : List ℕ
    pub time : ℕ
    pub run : Run acts goal path s time
    pub quick : time ≤ t
    pub short : length path ≤ k
    pub apart : Distinct (trail path s time run)

  slower : (s : Scene) (t u k j : ℕ) → Simple s t k → t ≤ u → k ≤ j → Simple s u j
  slower s t u k j f h g = record { path = f.path; time = f.time; run = f.run; quick = omega (arith, f.quick); short = omega (arith, f.short); apart = f.apart }

  here : (q : Scene) → SceneOf ns q → (is : List ℕ) (s : Scene) (t : ℕ) (run : Run acts goal is s t) → SceneOf ns s → Distinct (trail is s t run) → rank ns q ≡ rank ns s → Simple q t (length is)
  here q lq is s t run l d e =
      subst (λ x. Simple x t (length is)) (sym (rank_one ns q s lq l e)) (record { path = is; time = t; run = run; quick = omega arith; short = omega arith; apart = d })

  -- a run with no scene twice does not visit q, or goes on from there
  cut : (q : Scene) → SceneOf ns q → (is : List ℕ) (s : Scene) (t : ℕ) (run : Run acts goal is s t) → SceneOf ns s → Distinct (trail is s t run) → Absent (rank ns q) (trail is s t run) ⊎ Simple q t (length is)
  cut q lq [] s t run l d = ⊎_elim (λ e. inr (here q lq [] s t run l d e)) (λ ne. inl (ne, tt)) (cases_eq (rank ns q) (rank ns s))
  cut q lq (i ∷ is) s t run l d =
      ⊎_elim
      (λ e. inr (here q lq (i ∷ is) s t run l d e))
      (λ ne. ⊎_elim
      (λ a. inl (ne, a))
      (λ f. inr (slower q run.3 t (length is) (suc (length is)) f (omega (arith, run.5)) (omega arith)))
      (cut q lq is (run.0.next s) run.3 run.4 ((law i run.0 run.1).keeps s l run.2) d.1))
      (cases_eq (rank ns q) (rank ns s))

  pub erase : (is : List ℕ) (s : Scene) (t : ℕ) → Run acts goal is s t → SceneOf ns s → Simple s t (length is)
  erase [] s t run l = record { path = []; time = t; run = run; quick = omega arith; short = omega arith; apart = (tt, tt) }
  erase (i ∷ is) s t run l =
      let on = (law i run.0 run.1).keeps s l run.2 in
      let old = erase is (run.0.next s) run.3 run.4 on in
      ⊎_elim
      (λ new. record {
        path = i ∷ old.path;
        time = run.0.cost s + old.time;
        run = (run.0, run.1, run.2, old.time, old.run, refl);
        quick = omega (arith, run.5, old.quick);
        short = omega (arith, old.short);
        apart = (new, old.apart);
      })
      (λ again. slower s old.time t (length old.path) (suc (length is)) again (omega (arith, run.5, old.quick)) (omega (arith, old.short)))
      (cut s l old.path (run.0.next s) old.time old.run on old.apart)

  pub simple_few : (s : Scene) (t k : ℕ) → SceneOf ns s → (f : Simple s t k) → suc (length f.path) ≤ size ns
  simple_few s t k l f =
      omega (arith, few (size ns) (trail f.path s f.time f.run) f.apart (trail_below f.path s f.time f.run l), trail_length f.path s f.time f.run)

  time_most : (is : List ℕ) (s : Scene) (t : ℕ) → SceneOf ns s → Run acts goal is s t → t ≤ length is * most_tenths
  time_most [] s t l run = omega (arith, run.1)
  time_most (i ∷ is) s t l run = omega (arith, run.5, time_most is (run.0.next s) run.3 ((law i run.0 run.1).keeps s l run.2) run.4, (law i run.0 run.1).most s l)

  bounded : (r : ℕ) (s : Scene) → SceneOf ns s → (t : ℕ) → now ns acts goal law r s ≡ Some t → t ≤ size ns * most_tenths
  bounded r s l t e =
      let f = sound ns acts goal law r s l t e in
      let g = erase f.0 s t f.1.1 l in
      let least : t ≤ g.time = subst (λ o. AtMost o g.time) e (whole ns acts goal law g.path r s g.time l (omega (arith, f.1.0, g.short)) g.run) in
      omega (arith, time_most g.path s g.time l g.run, mul-le-mul_right most_tenths (simple_few s t _ l g))

  -- a round past the number of scenes finds nothing new
  nothing_new : (r : ℕ) → size ns ≤ suc r → (s : Scene) → SceneOf ns s → now ns acts goal law (suc r) s ≡ now ns acts goal law r s
  nothing_new r h s l =
      same_times _ _
      (λ t e.
      let f = sound ns acts goal law (suc r) s l t e in
      let g = erase f.0 s t f.1.1 l in
      no_later _ _ _ g.quick (whole ns acts goal law g.path r s g.time l (omega (arith, simple_few s t _ l g)) g.run))
      (λ t e. subst (λ o. AtMost o t) (sym (next_round ns acts goal law r s l)) (relax_keeps acts (now ns acts goal law r) s t (of_some _ t e)))

pub times_bounded : TimesBounded
times_bounded = bounded

-- a chart of a round past them is the one before
same_round : (ns : Shape) (f g : Scene → Time) → ((s : Scene) → SceneOf ns s → at ns (map f (scenes ns)) s ≡ at ns (map g (scenes ns)) s) → map f (scenes ns) ≡ map g (scenes ns)
same_round ns f g h = tabulated_as ns f g (λ s l. sym (tabulated ns f s l) ∙ h s l ∙ tabulated ns g s l)

pub rounds_stop : RoundsStop
rounds_stop ns acts goal law zero h = same_round ns _ _ (nothing_new ns acts goal law 0 h)
rounds_stop ns acts goal law (suc r) h = same_round ns _ _ (nothing_new ns acts goal law (suc r) h)

pub charts_right : ChartsRight
charts_right ns acts goal law = settled_right ns acts goal law (size ns) (rounds_stop ns acts goal law (size ns) (omega arith))
