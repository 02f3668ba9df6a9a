-- What the calls of one move hang. Assumes nothing.
use Rattle.std.proofs.Common.{◌≡◌, ℕ, ◌≤◌, Bool, cond, eqb, List, [], ◌∷◌, ◌++◌, length, get_or, set, Some, None, Option, sym, refl, ap, ◌∙◌, subst, arith}
use Rattle.std.specs.List.{AllByRecursion}
use Rattle.std.proofs.lemmas.List.{set_comm}
use Rattle.model.specs.Lists.{total}
use Rattle.model.specs.Scenes.{Shape, Scene, SceneOf}
use Rattle.model.specs.Charts.{Time, Chart, lesser, plus, zipped, dialled}
use Rattle.model.specs.Moves.{Pair, Surcharge, Move, holds, all_hold, charged, time, applied}
use Rattle.model.specs.Shelves.{Pegs, Call, sum, chart_of, after}
use Rattle.theory.specs.Iteration.{later, through}
use Rattle.theory.specs.Wellformed.{Within, Absent, Distinct, LawfulSurcharge, LawfulMove}
use Rattle.theory.specs.Tables.{action_of}
use Rattle.rule.specs.Steps.{entries, only, dearer, effected, conditioned, based, further, tested, surcharged, tried}
use Rattle.rule.specs.Running.{ran}
use Rattle.rule.specs.Bridge.{tab}
use Rattle.rule.proofs.Tabs.{Few, holds_is, tab_as, tab_zipped, tab_dialled, tab_put, lesser_same, plus_only, plus_later, later_zero, later_later, later_cond, both, cond_both, both_true, both_assoc, lesser_cond, cond_some}

pub ran_append : (ns : Shape) (ps : Pegs) (cs ds : List Call) → ran ns ps (cs ++ ds) ≡ ran ns (ran ns ps cs) ds
ran_append ns ps [] ds = refl
ran_append ns ps (c ∷ cs) ds = ran_append ns (after ns ps c) cs ds

-- The order of effects

-- the effects in reverse order, as the puts take them
abbrev pub taken : List Pair → Scene → Scene
taken [] s = s
taken (p ∷ ps) s = set (taken ps s) p.device p.setting

applied_set : (ps : List Pair) (v d : ℕ) (s : Scene) → Absent v ps → applied ps (set s v d) ≡ set (applied ps s) v d
applied_set [] v d s h = refl
applied_set (p ∷ ps) v d s h = ap (applied ps) (set_comm s v p.device d p.setting h.0) ∙ applied_set ps v d (set s p.device p.setting) h.1

-- where no device stands twice, the order makes no difference
pub taken_applied : (ps : List Pair) (s : Scene) → Distinct ps → taken ps s ≡ applied ps s
taken_applied [] s h = refl
taken_applied (p ∷ ps) s h = ap (λ q. set q p.device p.setting) (taken_applied ps s h.1) ∙ sym (applied_set ps p.device p.setting s h.0)

module _ (ns : Shape) (few : Few ns) (a b : Option Chart) (rest : Pegs) where
  -- peg 2 has the chart of w, pegs 3 and 4 whatever they have
  pub record Now (ps : Pegs) (w : Scene → Time) : Type 0 where
    pub three : Option Chart
    pub four : Option Chart
    pub is : ps ≡ a ∷ b ∷ Some (tab ns w) ∷ three ∷ four ∷ rest

  pub now_as : {ps : Pegs} {w u : Scene → Time} → ((s : Scene) → SceneOf ns s → w s ≡ u s) → Now ps w → Now ps u
  now_as {ps} {w} {u} h n = record { three = n.three; four = n.four; is = n.is ∙ ap (λ c. a ∷ b ∷ Some c ∷ n.three ∷ n.four ∷ rest) (tab_as ns w u h) }

  -- one block after another
  pub then : (ps : Pegs) {w u : Scene → Time} (cs ds : List Call) → Now (ran ns ps cs) w → ((d e : Option Chart) → Now (ran ns (a ∷ b ∷ Some (tab ns w) ∷ d ∷ e ∷ rest) ds) u) → Now (ran ns ps (cs ++ ds)) u
  then ps {w} {u} cs ds n f = subst (λ qs. Now qs u) (sym (ran_append ns ps cs ds ∙ ap (λ qs. ran ns qs ds) n.is)) (f n.three n.four)

  effected_ran : (qs : List Pair) → AllByRecursion (Within ns) qs → (w : Scene → Time) (d e : Option Chart) →
      Now (ran ns (a ∷ b ∷ Some (tab ns w) ∷ d ∷ e ∷ rest) (effected qs)) (λ s. w (taken qs s))
  effected_ran [] h w d e = record { three = d; four = e; is = refl }
  effected_ran (q ∷ qs) h w d e =
      subst (λ c. Now (ran ns (a ∷ b ∷ Some c ∷ d ∷ e ∷ rest) (effected qs)) (λ s. w (taken (q ∷ qs) s)))
      (sym (tab_put ns q.device q.setting h.0.0 h.0.1 w))
      (effected_ran qs h.1 (λ s. w (set s q.device q.setting)) d e)

  -- a dial on peg 3, added to peg 2
  added : (v : ℕ) (f : ℕ → Time) (w : Scene → Time) →
      zipped plus (tab ns w) (dialled ns v (entries f)) ≡ tab ns (λ s. plus (w s) (f (get_or s v 0)))
  added v f w = ap (zipped plus (tab ns w)) (tab_dialled ns few v f) ∙ tab_zipped ns plus w (λ s. f (get_or s v 0))

  conditioned_ran : (qs : List Pair) → AllByRecursion (Within ns) qs → (w : Scene → Time) (d e : Option Chart) →
      Now (ran ns (a ∷ b ∷ Some (tab ns w) ∷ d ∷ e ∷ rest) (conditioned qs)) (λ s. cond (all_hold s qs) (w s) None)
  conditioned_ran [] h w d e = record { three = d; four = e; is = refl }
  conditioned_ran (q ∷ qs) h w d e =
      let x : Chart = dialled ns q.device (entries (only q.setting)) in
      let u : Scene → Time = λ s. plus (w s) (only q.setting (get_or s q.device 0)) in
      let one : (s : Scene) → SceneOf ns s → u s ≡ cond (holds s q) (w s) None =
      λ s l. plus_only (w s) (eqb (get_or s q.device 0) q.setting) ∙ ap (λ z. cond z (w s) None) (sym (holds_is ns q s h.0 l)) in
      subst (λ c. Now (ran ns (a ∷ b ∷ Some c ∷ Some x ∷ e ∷ rest) (conditioned qs)) (λ s. cond (all_hold s (q ∷ qs)) (w s) None))
      (sym (added q.device (only q.setting) w))
      (now_as (λ s l. ap (λ o. cond (all_hold s qs) o None) (one s l) ∙ cond_both (holds s q) (all_hold s qs) (w s)) (conditioned_ran qs h.1 u (Some x) e))

  -- peg 3 has the chart of g
  pub record Now3 (ps : Pegs) (w g : Scene → Time) : Type 0 where
    pub four : Option Chart
    pub is : ps ≡ a ∷ b ∷ Some (tab ns w) ∷ Some (tab ns g) ∷ four ∷ rest

  now3_as : {ps : Pegs} {w g u : Scene → Time} → ((s : Scene) → SceneOf ns s → g s ≡ u s) → Now3 ps w g → Now3 ps w u
  now3_as {ps} {w} {g} {u} h n = record { four = n.four; is = n.is ∙ ap (λ c. a ∷ b ∷ Some (tab ns w) ∷ Some c ∷ n.four ∷ rest) (tab_as ns g u h) }

  -- the extra where the test holds, 0 elsewhere
  dearer_is : (x : ℕ) (q : Pair) → Within ns q → (s : Scene) → SceneOf ns s → dearer x q.setting (get_or s q.device 0) ≡ Some (cond (holds s q) x 0)
  dearer_is x q h s l = cond_some (eqb (get_or s q.device 0) q.setting) x ∙ ap (λ z. Some (cond z x 0)) (sym (holds_is ns q s h l))

  further_ran : (x : ℕ) (qs : List Pair) → AllByRecursion (Within ns) qs → (w : Scene → Time) (k : Scene → Bool) (e : Option Chart) →
      Now3 (ran ns (a ∷ b ∷ Some (tab ns w) ∷ Some (tab ns (λ s. Some (cond (k s) x 0))) ∷ e ∷ rest) (further x qs)) w (λ s. Some (cond (both (k s) (all_hold s qs)) x 0))
  further_ran x [] h w k e = now3_as (λ s l. ap (λ z. Some (cond z x 0)) (sym (both_true (k s)))) (record { four = e; is = refl })
  further_ran x (q ∷ qs) h w k e =
      let g : Scene → Time = λ s. Some (cond (k s) x 0) in
      let f : ℕ → Time = dearer x q.setting in
      let c : Chart = dialled ns q.device (entries f) in
      let m : zipped lesser (tab ns g) c ≡ tab ns (λ s. Some (cond (both (k s) (holds s q)) x 0)) =
      ap (zipped lesser (tab ns g)) (tab_dialled ns few q.device f) ∙ tab_zipped ns lesser g (λ s. f (get_or s q.device 0))
      ∙ tab_as ns _ _ (λ s l. ap (lesser (g s)) (dearer_is x q h.0 s l) ∙ lesser_cond (k s) (holds s q) x) in
      subst (λ y. Now3 (ran ns (a ∷ b ∷ Some (tab ns w) ∷ Some y ∷ Some c ∷ rest) (further x qs)) w (λ s. Some (cond (both (k s) (all_hold s (q ∷ qs))) x 0))) (sym m)
      (now3_as (λ s l. ap (λ z. Some (cond z x 0)) (both_assoc (k s) (holds s q) (all_hold s qs))) (further_ran x qs h.1 w (λ s. both (k s) (holds s q)) (Some c)))

  tested_ran : (x : ℕ) (qs : List Pair) → 1 ≤ length qs → AllByRecursion (Within ns) qs → (w : Scene → Time) (d e : Option Chart) →
      Now3 (ran ns (a ∷ b ∷ Some (tab ns w) ∷ d ∷ e ∷ rest) (tested x qs)) w (λ s. Some (cond (all_hold s qs) x 0))
  tested_ran x [] some h w d e = absurd (omega arith)
  tested_ran x (q ∷ qs) some h w d e =
      subst (λ y. Now3 (ran ns (a ∷ b ∷ Some (tab ns w) ∷ Some y ∷ e ∷ rest) (further x qs)) w (λ s. Some (cond (all_hold s (q ∷ qs)) x 0)))
      (sym (tab_dialled ns few q.device (dearer x q.setting) ∙ tab_as ns _ _ (λ s l. dearer_is x q h.0 s l)))
      (further_ran x qs h.1 w (λ s. holds s q) e)

  surcharged_ran : (xs : List Surcharge) → AllByRecursion (LawfulSurcharge ns) xs → (w : Scene → Time) (d e : Option Chart) →
      Now (ran ns (a ∷ b ∷ Some (tab ns w) ∷ d ∷ e ∷ rest) (surcharged xs)) (λ s. later (total (charged s) xs) (w s))
  surcharged_ran [] h w d e = now_as (λ s l. sym (later_zero (w s))) (record { three = d; four = e; is = refl })
  surcharged_ran (x ∷ xs) h w d e =
      let t : Scene → ℕ = λ s. charged s x in
      let n = tested_ran x.extra x.tests h.0.some_tests h.0.pairs.within w d e in
      let z : zipped plus (tab ns w) (tab ns (λ s. Some (t s))) ≡ tab ns (λ s. later (t s) (w s)) = tab_zipped ns plus w (λ s. Some (t s)) ∙ tab_as ns _ _ (λ s l. plus_later (w s) (t s)) in
      let path : ran ns (a ∷ b ∷ Some (tab ns w) ∷ d ∷ e ∷ rest) (surcharged (x ∷ xs)) ≡ ran ns (a ∷ b ∷ Some (tab ns (λ s. later (t s) (w s))) ∷ Some (tab ns (λ s. Some (t s))) ∷ n.four ∷ rest) (surcharged xs) =
      ran_append ns _ (tested x.extra x.tests) (sum 2 2 3 ∷ surcharged xs) ∙ ap (λ qs. ran ns qs (sum 2 2 3 ∷ surcharged xs)) n.is
      ∙ ap (λ c. ran ns (a ∷ b ∷ Some c ∷ Some (tab ns (λ s. Some (t s))) ∷ n.four ∷ rest) (surcharged xs)) z in
      subst (λ qs. Now qs (λ s. later (total (charged s) (x ∷ xs)) (w s))) (sym path)
      (now_as (λ s l. later_later (total (charged s) xs) (t s) (w s)) (surcharged_ran xs h.1 (λ s. later (t s) (w s)) _ n.four))

  based_ran : (t : ℕ) (w : Scene → Time) (d e : Option Chart) →
      Now (ran ns (a ∷ b ∷ Some (tab ns w) ∷ d ∷ e ∷ rest) (based t)) (λ s. later t (w s))
  based_ran t w d e =
      let x : Chart = dialled ns 0 (entries (λ _. Some t)) in
      record {
        three = Some x;
        four = e;
        is = ap (λ c. a ∷ b ∷ Some c ∷ Some x ∷ e ∷ rest) (added 0 (λ _. Some t) w ∙ tab_as ns _ _ (λ s l. plus_later (w s) t));
      }

  -- peg 0 has the chart of v, the others whatever they have
  pub tried_ran : (m : Move) → LawfulMove ns m → (v : Scene → Time) → a ≡ Some (tab ns v) → (c d e : Option Chart) →
      Now (ran ns (a ∷ b ∷ c ∷ d ∷ e ∷ rest) (tried m)) (through (Some (action_of m)) v)
  tried_ran m law v h c d e =
      let copied : zipped lesser (chart_of a) (chart_of a) ≡ tab ns v = ap (λ o. zipped lesser (chart_of o) (chart_of o)) h ∙ tab_zipped ns lesser v v ∙ tab_as ns _ _ (λ s l. lesser_same (v s)) in
      let f : Scene → Time = λ s. v (taken m.effects s) in
      let g : Scene → Time = λ s. cond (all_hold s m.conditions) (f s) None in
      let u : Scene → Time = λ s. later (total (charged s) m.surcharges) (later m.base (g s)) in
      let last : List Call = surcharged m.surcharges in
      let all : (d e : Option Chart) → Now (ran ns (a ∷ b ∷ Some (tab ns v) ∷ d ∷ e ∷ rest) (effected m.effects ++ (conditioned m.conditions ++ (based m.base ++ last)))) u =
      λ d e. then _ {u = u} (effected m.effects) (conditioned m.conditions ++ (based m.base ++ last)) (effected_ran m.effects law.effected.within v d e) (λ d e.
      then _ {u = u} (conditioned m.conditions) (based m.base ++ last) (conditioned_ran m.conditions law.conditioned.within f d e) (λ d e.
      then (a ∷ b ∷ Some (tab ns g) ∷ d ∷ e ∷ rest) {u = u} (based m.base) last (based_ran m.base g d e) (λ d e. surcharged_ran m.surcharges law.surcharged (λ s. later m.base (g s)) d e))) in
      subst (λ x. Now (ran ns (a ∷ b ∷ Some x ∷ d ∷ e ∷ rest) (effected m.effects ++ (conditioned m.conditions ++ (based m.base ++ last)))) (through (Some (action_of m)) v)) (sym copied)
      (now_as (λ s l.
      later_later (total (charged s) m.surcharges) m.base (g s) ∙ later_cond (time m s) (all_hold s m.conditions) (f s)
      ∙ ap (λ q. cond (all_hold s m.conditions) (later (time m s) (v q)) None) (taken_applied m.effects s law.effected.distinct)) (all d e))
