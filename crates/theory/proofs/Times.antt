-- What a round of value iteration does to the times. Assumes nothing.
use Rattle.std.proofs.Common.{◌≡◌, ℕ, zero, suc, ◌+◌, ◌≤◌, min, Bool, true, false, cond, ◌⊎◌, List, [], ◌∷◌, length, Some, None, Option, sym, refl, ap, ◌∙◌, subst, inl, inr, ⊎_elim, arith}
use Rattle.std.proofs.lemmas.Bool.{cases_lt}
use Rattle.model.specs.Scenes.{Shape, Scene, SceneOf}
use Rattle.model.specs.Charts.{Time, at, lesser}
use Rattle.model.proofs.Ranks.{tabulated}
use Rattle.theory.specs.Actions.{Action, Table, numbered, LawfulTable, Run}
use Rattle.theory.specs.Iteration.{later, through, best, relax, initial, rounds, Answers, RoundsRight, SettledRight, Settled, AnySettledRight}

-- the time is there, and at most t
abbrev pub AtMost : Time → ℕ → Type 0
AtMost None t = ⊥
AtMost (Some a) t = a ≤ t

pub of_some : (o : Time) (t : ℕ) → o ≡ Some t → AtMost o t
of_some o t e = subst (λ x. AtMost x t) (sym e) (omega arith)

pub some_is : (a b : ℕ) → Some a ≡ Some b → a ≡ b
some_is a b e = cc

pub none_is_not : (a : ℕ) → None ≡ Some a → ⊥
none_is_not a e = subst (λ x. AtMost x a → ⊥) e (λ h. h) (omega arith)

pub no_later : (o : Time) (t u : ℕ) → t ≤ u → AtMost o t → AtMost o u
no_later None t u h a = a
no_later (Some x) t u h a = omega arith

-- two entries that are at most each other
pub same_times : (o p : Time) → ((t : ℕ) → o ≡ Some t → AtMost p t) → ((t : ℕ) → p ≡ Some t → AtMost o t) → o ≡ p
same_times None None h k = refl
same_times None (Some b) h k = absurd (k b refl)
same_times (Some a) None h k = absurd (h a refl)
same_times (Some a) (Some b) h k = let e : a ≡ b = omega (arith, h a refl, k b refl) in ap Some e

lesser_left : (o p : Time) (t : ℕ) → AtMost o t → AtMost (lesser o p) t
lesser_left None p t h = absurd h
lesser_left (Some a) None t h = h
lesser_left (Some a) (Some b) t h = omega arith

lesser_right : (o p : Time) (t : ℕ) → AtMost p t → AtMost (lesser o p) t
lesser_right None p t h = h
lesser_right (Some a) None t h = absurd h
lesser_right (Some a) (Some b) t h = omega arith

lesser_one : (o p : Time) → (lesser o p ≡ o) ⊎ (lesser o p ≡ p)
lesser_one None p = inr refl
lesser_one (Some a) None = inl refl
lesser_one (Some a) (Some b) =
    ⊎_elim
    (λ h. let e : min a b ≡ a = omega arith in inl (ap Some e))
    (λ h. let e : min a b ≡ b = omega arith in inr (ap Some e))
    (cases_lt a b)

later_most : (c : ℕ) (o : Time) (t : ℕ) → AtMost o t → AtMost (later c o) (c + t)
later_most c None t h = absurd h
later_most c (Some a) t h = omega arith

-- a slot's action, taken at s, where v is some u at the scene that it leads to
pub record Takes (o : Option Action) (v : Scene → Time) (s : Scene) (t : ℕ) : Type 0 where
  pub action : Action
  pub there : o ≡ Some action
  pub may : action.applicable s ≡ true
  pub rest : ℕ
  pub then : v (action.next s) ≡ Some rest
  pub total : t ≡ action.cost s + rest

pub takes : (o : Option Action) (v : Scene → Time) (s : Scene) (t : ℕ) → through o v s ≡ Some t → Takes o v s t
takes None v s t e = absurd (none_is_not t e)
takes (Some a) v s t e = go (a.applicable s) refl e
  where
    go : (b : Bool) → a.applicable s ≡ b → cond b (later (a.cost s) (v (a.next s))) None ≡ Some t → Takes (Some a) v s t
    go false f e = absurd (none_is_not t e)
    go true f e = far (v (a.next s)) refl e
      where
        far : (o : Time) → v (a.next s) ≡ o → later (a.cost s) o ≡ Some t → Takes (Some a) v s t
        far None g e = absurd (none_is_not t e)
        far (Some u) g e = record { action = a; there = refl; may = f; rest = u; then = g; total = sym (some_is _ _ e) }

-- a action that may be taken leads to a time
pub through_most : (o : Option Action) (v : Scene → Time) (s : Scene) (a : Action) → o ≡ Some a → a.applicable s ≡ true → (u : ℕ) → AtMost (v (a.next s)) u → AtMost (through o v s) (a.cost s + u)
through_most o v s a e can u h =
    subst (λ x. AtMost (through x v s) (a.cost s + u)) (sym e)
    (subst (λ b. AtMost (cond b (later (a.cost s) (v (a.next s))) None) (a.cost s + u)) (sym can) (later_most (a.cost s) (v (a.next s)) u h))

best_keeps : (o : Time) (acts : Table) (v : Scene → Time) (s : Scene) (t : ℕ) → AtMost o t → AtMost (best o acts v s) t
best_keeps o [] v s t h = h
best_keeps o (a ∷ acts) v s t h = best_keeps (lesser o (through a v s)) acts v s t (lesser_left o (through a v s) t h)

best_most : (o : Time) (acts : Table) (v : Scene → Time) (s : Scene) (i : ℕ) (t : ℕ) → AtMost (through (numbered acts i) v s) t → AtMost (best o acts v s) t
best_most o [] v s i t h = absurd h
best_most o (a ∷ acts) v s zero t h = best_keeps (lesser o (through a v s)) acts v s t (lesser_right o (through a v s) t h)
best_most o (a ∷ acts) v s (suc i) t h = best_most (lesser o (through a v s)) acts v s i t h

best_one : (o : Time) (acts : Table) (v : Scene → Time) (s : Scene) (t : ℕ) → best o acts v s ≡ Some t → (o ≡ Some t) ⊎ ((i : ℕ) × (through (numbered acts i) v s ≡ Some t))
best_one o [] v s t e = inl e
best_one o (a ∷ acts) v s t e =
    ⊎_elim
    (λ here. ⊎_elim (λ was. inl (sym was ∙ here)) (λ by. inr (0, sym by ∙ here)) (lesser_one o (through a v s)))
    (λ later. inr (suc later.0, later.1))
    (best_one (lesser o (through a v s)) acts v s t e)

pub relax_keeps : (acts : Table) (v : Scene → Time) (s : Scene) (t : ℕ) → AtMost (v s) t → AtMost (relax acts v s) t
relax_keeps acts v s t h = best_keeps (v s) acts v s t h

pub relax_most : (acts : Table) (v : Scene → Time) (s : Scene) (i : ℕ) (t : ℕ) → AtMost (through (numbered acts i) v s) t → AtMost (relax acts v s) t
relax_most acts v s i t h = best_most (v s) acts v s i t h

-- what a round finds is what was there, or comes by a slot
pub relax_one : (acts : Table) (v : Scene → Time) (s : Scene) (t : ℕ) → relax acts v s ≡ Some t → (v s ≡ Some t) ⊎ ((i : ℕ) × (through (numbered acts i) v s ≡ Some t))
relax_one acts v s t e = best_one (v s) acts v s t e

none_less : (o : Time) → AtMost o 0 → o ≡ Some 0
none_less None h = absurd h
none_less (Some a) h = let e : a ≡ 0 = omega arith in ap Some e

-- from what is found to the answers
pub answers : (P : List ℕ → ℕ → Type 0) (o : Time) → ((t : ℕ) → o ≡ Some t → (is : List ℕ) × P is t) → ((is : List ℕ) (t : ℕ) → P is t → AtMost o t) → Answers P o
answers P None sound whole = record {
  finite = λ t. (λ e. absurd (none_is_not t e), λ h. absurd (whole h.witness t h.passes));
  never = (λ e. whole, λ h. refl);
}
answers P (Some a) sound whole = record {
  finite = λ t. (
    λ e. record { witness = (sound t e).0; passes = (sound t e).1; below = λ is u p. subst (λ x. x ≤ u) (some_is a t e) (whole is u p) },
    λ h. let e : a ≡ t = omega (arith, whole h.witness t h.passes, h.below (sound a refl).0 a (sound a refl).1) in ap Some e,
  );
  never = (λ e. absurd (none_is_not a (sym e)), λ h. absurd (h (sound a refl).0 a (sound a refl).1));
}

module _ (ns : Shape) (acts : Table) (goal : Scene → Bool) (law : LawfulTable ns acts) where
  abbrev pub now : ℕ → Scene → Time
  now r = at ns (rounds ns acts goal r)

  pub first_round : (s : Scene) → SceneOf ns s → now 0 s ≡ initial goal s
  first_round s l = tabulated ns (initial goal) s l

  pub next_round : (r : ℕ) (s : Scene) → SceneOf ns s → now (suc r) s ≡ relax acts (now r) s
  next_round r s l = tabulated ns (relax acts (now r)) s l

  -- a time that v gives is the time of a run
  abbrev pub SoundAt : (Scene → Time) → ℕ → Scene → Type 0
  SoundAt v r s = (t : ℕ) → v s ≡ Some t → (is : List ℕ) × ((length is ≤ r) × Run acts goal is s t)

  initial_sound : (s : Scene) → SoundAt (initial goal) 0 s
  initial_sound s t e = go (goal s) refl e
    where
      go : (b : Bool) → goal s ≡ b → cond b (Some 0) None ≡ Some t → (is : List ℕ) × ((length is ≤ 0) × Run acts goal is s t)
      go false f e = absurd (none_is_not t e)
      go true f e = ([], (omega arith, (f, sym (some_is _ _ e))))

  pub relax_sound : (v : Scene → Time) (r : ℕ) → ((s : Scene) → SceneOf ns s → SoundAt v r s) → (s : Scene) → SceneOf ns s → SoundAt (relax acts v) (suc r) s
  relax_sound v r h s l t e =
      ⊎_elim
      (λ was. let old = h s l t was in (old.0, (omega (arith, old.1.0), old.1.1)))
      (λ by.
      let k = takes _ v s t by.1 in
      let old = h (k.action.next s) ((law by.0 k.action k.there).keeps s l k.may) k.rest k.then in
      (by.0 ∷ old.0, (omega (arith, old.1.0), (k.action, k.there, k.may, k.rest, old.1.1, k.total))))
      (relax_one acts v s t e)

  pub sound : (r : ℕ) (s : Scene) → SceneOf ns s → SoundAt (now r) r s
  sound zero s l t e = initial_sound s t (sym (first_round s l) ∙ e)
  sound (suc r) s l t e = relax_sound (now r) r (sound r) s l t (sym (next_round r s l) ∙ e)

  -- a run by way of a action
  pub by_move : (v : Scene → Time) (s : Scene) (i : ℕ) (is : List ℕ) (t : ℕ) (run : Run acts goal (i ∷ is) s t) → AtMost (v (run.0.next s)) run.3 → AtMost (relax acts v s) t
  by_move v s i is t run h = subst (AtMost (relax acts v s)) (sym run.5) (relax_most acts v s i _ (through_most (numbered acts i) v s run.0 run.1 run.2 run.3 h))

  pub at_wanted : (r : ℕ) (s : Scene) → SceneOf ns s → goal s ≡ true → AtMost (now r s) 0
  at_wanted zero s l w = subst (λ o. AtMost o 0) (sym (first_round s l)) (subst (λ b. AtMost (cond b (Some 0) None) 0) (sym w) (omega arith))
  at_wanted (suc r) s l w = subst (λ o. AtMost o 0) (sym (next_round r s l)) (relax_keeps acts (now r) s 0 (at_wanted r s l w))

  pub whole : (is : List ℕ) (r : ℕ) (s : Scene) (t : ℕ) → SceneOf ns s → length is ≤ r → Run acts goal is s t → AtMost (now r s) t
  whole [] r s t l h run = subst (AtMost (now r s)) (sym run.1) (at_wanted r s l run.0)
  whole (i ∷ is) zero s t l h run = absurd (omega arith)
  whole (i ∷ is) (suc r) s t l h run =
      subst (λ o. AtMost o t) (sym (next_round r s l))
      (by_move (now r) s i is t run (whole is r (run.0.next s) run.3 ((law i run.0 run.1).keeps s l run.2) (omega arith) run.4))

  still_whole : (v : Scene → Time) → Settled ns acts goal v → (is : List ℕ) (s : Scene) (t : ℕ) → SceneOf ns s → Run acts goal is s t → AtMost (v s) t
  still_whole v f [] s t l run = subst (AtMost (v s)) (sym run.1) (of_some (v s) 0 (f.arrived s l run.0))
  still_whole v f (i ∷ is) s t l run =
      subst (λ o. AtMost o t) (f.still s l)
      (by_move v s i is t run (still_whole v f is (run.0.next s) run.3 ((law i run.0 run.1).keeps s l run.2) run.4))

  settled : (r : ℕ) → rounds ns acts goal (suc r) ≡ rounds ns acts goal r → Settled ns acts goal (now r)
  settled r e = record {
    reached = λ s l t f. let run = sound r s l t f in (run.0, run.1.1);
    arrived = λ s l w. none_less (now r s) (at_wanted r s l w);
    still = λ s l. sym (next_round r s l) ∙ ap (λ c. at ns c s) e;
  }

pub rounds_right : RoundsRight
rounds_right ns acts goal law r s l =
    answers _ _ (sound ns acts goal law r s l) (λ is t p. whole ns acts goal law is r s t l p.0 p.1)

pub any_settled_right : AnySettledRight
any_settled_right ns acts goal law v f s l = answers _ _ (f.reached s l) (λ is t p. still_whole ns acts goal law v f is s t l p)

pub settled_right : SettledRight
settled_right ns acts goal law r e = any_settled_right ns acts goal law _ (settled ns acts goal law r e)

-- what the answers tell
pub reached : (P : List ℕ → ℕ → Type 0) (o : Time) → Answers P o → (t : ℕ) → o ≡ Some t → (is : List ℕ) × P is t
reached P o f t e = let k = (f.finite t).0 e in (k.witness, k.passes)

pub most : (P : List ℕ → ℕ → Type 0) (o : Time) → Answers P o → (is : List ℕ) (t : ℕ) → P is t → AtMost o t
most P None f is t p = f.never.0 refl is t p
most P (Some a) f is t p = ((f.finite a).0 refl).below is t p
