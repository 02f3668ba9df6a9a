-- Contents that are alike. Assumes nothing.
use Rattle.std.proofs.Common.{◌≡◌, ℕ, zero, suc, ◌≤◌, Bool, List, [], ◌∷◌, Some, None, Option, sym, refl, ap, ◌∙◌, subst, inl, inr, arith}
use Rattle.model.specs.Scenes.{Shape, Scene}
use Rattle.model.specs.Charts.{Time, at, lesser}
use Rattle.model.specs.Masks.{wanted}
use Rattle.model.specs.Contents.{Contents}
use Rattle.model.proofs.Ranks.{tabulated_as}
use Rattle.theory.specs.Actions.{Action, Table, numbered, Run}
use Rattle.theory.specs.Iteration.{through, best, relax, rounds}
use Rattle.theory.specs.Walks.{Before}
use Rattle.theory.specs.Tables.{action_in, table_of}
use Rattle.theory.specs.Performing.{Way}
use Rattle.theory.specs.Alike.{Alike, WaysAlike, BestAlike}
use Rattle.theory.specs.Ways.{Best}
use Rattle.theory.proofs.Greedy.{before_told}
use Rattle.theory.proofs.Tabling.{table_numbered}
use Rattle.theory.proofs.Performing.{ways_are_runs}

-- the same action under each number
abbrev pub SameActions : Table → Table → Type 0
SameActions acts others = (k : ℕ) → numbered acts k ≡ numbered others k

pub tables_alike : (c d : Contents) → Alike c d → SameActions (table_of c.slots) (table_of d.slots)
tables_alike c d h k = table_numbered c.slots k ∙ ap action_in (h.moves k) ∙ sym (table_numbered d.slots k)

pub alike_back : (c d : Contents) → Alike c d → Alike d c
alike_back c d h = record { moves = λ k. sym (h.moves k); same_scene = sym h.same_scene; same_masks = sym h.same_masks }

-- Runs

run_alike : (acts others : Table) (goal : Scene → Bool) → SameActions acts others → (is : List ℕ) (s : Scene) (t : ℕ) → Run acts goal is s t → Run others goal is s t
run_alike acts others goal h [] s t run = run
run_alike acts others goal h (i ∷ is) s t run =
    (run.0, sym (h i) ∙ run.1, run.2, run.3, run_alike acts others goal h is (run.0.next s) run.3 run.4, run.5)

pub ways_alike : WaysAlike
ways_alike c d h is t w =
    let run = run_alike (table_of c.slots) (table_of d.slots) (wanted c.masks) (tables_alike c d h) is c.scene t ((ways_are_runs c is t).0 w) in
    let moved : Run (table_of d.slots) (wanted d.masks) is d.scene t =
    subst (λ s. Run (table_of d.slots) (wanted d.masks) is s t) h.same_scene
    (subst (λ ms. Run (table_of d.slots) (wanted ms) is c.scene t) h.same_masks run) in
    (ways_are_runs d is t).1 moved

-- the order of lists is that of one list before another, or the same
before_both : (is js : List ℕ) → Before is js → Before js is → is ≡ js
before_both [] [] h k = refl
before_both [] (j ∷ js) h k = absurd h
before_both (i ∷ is) [] h k = absurd h
before_both (i ∷ is) (j ∷ js) (inl less) (inl more) = absurd (omega arith)
before_both (i ∷ is) (j ∷ js) (inl less) (inr same) = let e = same.0 in absurd (omega arith)
before_both (i ∷ is) (j ∷ js) (inr same) (inl more) = let e = same.0 in absurd (omega arith)
before_both (i ∷ is) (j ∷ js) (inr h) (inr k) = λ n. h.0 n ∷ before_both is js h.1 k.1 n

pub best_alike : BestAlike
best_alike c d h is js t u f g =
    let ours : Best c is t = f in
    let theirs : Best d js u = g in
    let there = ways_alike c d h is t ours.way in
    let back = ways_alike d c (alike_back c d h) js u theirs.way in
    let least : t ≤ u = ours.least js u back in
    let most : u ≤ t = theirs.least is t there in
    let same : t ≡ u = omega arith in
    let one = (before_told is js).1 (ours.first js (subst (Way c js) (sym same) back)) in
    let two = (before_told js is).1 (theirs.first is (subst (Way d is) same there)) in
    (before_both is js one two, same)

-- Rounds

lesser_never : (o : Time) → lesser o None ≡ o
lesser_never None = refl
lesser_never (Some a) = refl

-- a number without an action adds nothing
best_none : (others : Table) → ((k : ℕ) → None ≡ numbered others k) → (o : Time) (v : Scene → Time) (s : Scene) → o ≡ best o others v s
best_none [] h o v s = refl
best_none (b ∷ others) h o v s =
    best_none others (λ k. h (suc k)) o v s ∙ ap (λ x. best x others v s) (sym (lesser_never o)) ∙ ap (λ (a : Option Action). best (lesser o (through a v s)) others v s) (h 0)

best_alikes : (acts others : Table) → SameActions acts others → (o : Time) (v : Scene → Time) (s : Scene) → best o acts v s ≡ best o others v s
best_alikes [] others h o v s = best_none others h o v s
best_alikes (a ∷ acts) [] h o v s = sym (best_none (a ∷ acts) (λ k. sym (h k)) o v s)
best_alikes (a ∷ acts) (b ∷ others) h o v s =
    best_alikes acts others (λ k. h (suc k)) (lesser o (through a v s)) v s ∙ ap (λ (x : Option Action). best (lesser o (through x v s)) others v s) (h 0)

pub rounds_alike : (ns : Shape) (acts others : Table) (goal : Scene → Bool) → SameActions acts others → (r : ℕ) → rounds ns acts goal r ≡ rounds ns others goal r
rounds_alike ns acts others goal h zero = refl
rounds_alike ns acts others goal h (suc r) =
    let old = rounds_alike ns acts others goal h r in
    tabulated_as ns (relax acts (at ns (rounds ns acts goal r))) (relax others (at ns (rounds ns others goal r))) (λ s l.
    best_alikes acts others h (at ns (rounds ns acts goal r) s) (at ns (rounds ns acts goal r)) s ∙ ap (λ c. relax others (at ns c) s) old)
