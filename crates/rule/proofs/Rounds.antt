-- What round 0 and a later round hang. Assumes nothing.
use Rattle.std.proofs.Common.{◌≡◌, ℕ, ◌+◌, ◌≤◌, cond, List, [], ◌∷◌, ◌++◌, length, get_or, drop, Some, None, Option, sym, refl, ap, ◌∙◌, subst, arith}
use Rattle.std.specs.List.{AllByRecursion}
use Rattle.std.proofs.lemmas.List.{drop_more}
use Rattle.model.specs.Scenes.{Shape, Scene, SceneOf}
use Rattle.model.specs.Charts.{Time, Chart, lesser, plus, zipped, dialled}
use Rattle.model.specs.Masks.{admits, wanted}
use Rattle.model.specs.Moves.{Move}
use Rattle.model.specs.Shelves.{Pegs, Call, cheaper}
use Rattle.model.proofs.Ranks.{scene_length}
use Rattle.theory.specs.Iteration.{through, best, relax, initial}
use Rattle.theory.specs.Wellformed.{LawfulSlot}
use Rattle.theory.specs.Tables.{action_of, table_of}
use Rattle.rule.specs.Steps.{entries, admitted, copy, masked, round_0, tried, of_slot, Step, calls, marked, by_moves, round, changing}
use Rattle.rule.specs.Running.{ran}
use Rattle.rule.specs.Bridge.{tab}
use Rattle.rule.proofs.Tabs.{Few, tab_as, tab_zipped, tab_dialled, lesser_same, lesser_never, plus_only, cond_and}
use Rattle.rule.proofs.Blocks.{ran_append, tried_ran}

pub calls_append : (xs ys : List Step) → calls (xs ++ ys) ≡ calls xs ++ calls ys
calls_append [] ys = refl
calls_append (x ∷ xs) ys = ap (λ cs. x.call ∷ cs) (calls_append xs ys)

pub calls_marked : (r : ℕ) (o : Option ℕ) (cs : List Call) → calls (marked r o cs) ≡ cs
calls_marked r o [] = refl
calls_marked r o (c ∷ cs) = ap (λ ds. c ∷ ds) (calls_marked r o cs)

-- steps after steps
pub ran_steps : (ns : Shape) (ps : Pegs) (xs ys : List Step) → ran ns ps (calls (xs ++ ys)) ≡ ran ns (ran ns ps (calls xs)) (calls ys)
ran_steps ns ps xs ys = ap (ran ns ps) (calls_append xs ys) ∙ ran_append ns ps (calls xs) (calls ys)

pub ran_marked : (ns : Shape) (ps : Pegs) (r : ℕ) (o : Option ℕ) (cs : List Call) (ys : List Step) → ran ns ps (calls (marked r o cs ++ ys)) ≡ ran ns (ran ns ps cs) (calls ys)
ran_marked ns ps r o cs ys = ran_steps ns ps (marked r o cs) ys ∙ ap (λ ds. ran ns (ran ns ps ds) (calls ys)) (calls_marked r o cs)

module _ (ns : Shape) (few : Few ns) (rest : Pegs) where
  -- pegs 0 and 1 have the charts of v and u, pegs 2 to 4 whatever they have
  pub record Both (ps : Pegs) (v u : Scene → Time) : Type 0 where
    pub two : Option Chart
    pub three : Option Chart
    pub four : Option Chart
    pub is : ps ≡ Some (tab ns v) ∷ Some (tab ns u) ∷ two ∷ three ∷ four ∷ rest

  both_as : {ps : Pegs} {v u w : Scene → Time} → ((s : Scene) → SceneOf ns s → u s ≡ w s) → Both ps v u → Both ps v w
  both_as {ps} {v} {u} {w} h n =
      record { two = n.two; three = n.three; four = n.four; is = n.is ∙ ap (λ c. Some (tab ns v) ∷ Some c ∷ n.two ∷ n.three ∷ n.four ∷ rest) (tab_as ns u w h) }

  by_moves_ran : (r i : ℕ) (slots : List (Option Move)) → AllByRecursion (LawfulSlot ns) slots → (v u : Scene → Time) (c d e : Option Chart) →
      Both (ran ns (Some (tab ns v) ∷ Some (tab ns u) ∷ c ∷ d ∷ e ∷ rest) (calls (by_moves r i slots))) v (λ s. best (u s) (table_of slots) v s)
  by_moves_ran r i [] law v u c d e = record { two = c; three = d; four = e; is = refl }
  by_moves_ran r i (None ∷ slots) law v u c d e =
      both_as (λ s l. ap (λ o. best o (table_of slots) v s) (sym (lesser_never (u s)))) (by_moves_ran r (i + 1) slots law.1 v u c d e)
  by_moves_ran r i (Some m ∷ slots) law v u c d e =
      let ps : Pegs = Some (tab ns v) ∷ Some (tab ns u) ∷ c ∷ d ∷ e ∷ rest in
      let w : Scene → Time = through (Some (action_of m)) v in
      let n = tried_ran ns few (Some (tab ns v)) (Some (tab ns u)) rest m law.0 v refl c d e in
      let path : ran ns ps (calls (by_moves r i (Some m ∷ slots))) ≡ ran ns (Some (tab ns v) ∷ Some (tab ns (λ s. lesser (u s) (w s))) ∷ Some (tab ns w) ∷ n.three ∷ n.four ∷ rest) (calls (by_moves r (i + 1) slots)) =
      ran_marked ns ps r (Some i) (of_slot (Some m)) (by_moves r (i + 1) slots)
      ∙ ap (λ qs. ran ns qs (calls (by_moves r (i + 1) slots)))
      (ran_append ns ps (tried m) (cheaper 1 1 2 ∷ []) ∙ ap (λ qs. ran ns qs (cheaper 1 1 2 ∷ [])) n.is
      ∙ ap (λ x. Some (tab ns v) ∷ Some x ∷ Some (tab ns w) ∷ n.three ∷ n.four ∷ rest) (tab_zipped ns lesser u w)) in
      subst (λ qs. Both qs v (λ s. best (u s) (table_of (Some m ∷ slots)) v s)) (sym path)
      (by_moves_ran r (i + 1) slots law.1 v (λ s. lesser (u s) (w s)) (Some (tab ns w)) n.three n.four)

  -- a copy
  copied : (v : Scene → Time) → zipped lesser (tab ns v) (tab ns v) ≡ tab ns v
  copied v = tab_zipped ns lesser v v ∙ tab_as ns _ _ (λ s l. lesser_same (v s))

  pub round_ran : (r : ℕ) (slots : List (Option Move)) → AllByRecursion (LawfulSlot ns) slots → (v : Scene → Time) (b c d e : Option Chart) →
      Both (ran ns (Some (tab ns v) ∷ b ∷ c ∷ d ∷ e ∷ rest) (calls (round r slots))) v (relax (table_of slots) v)
  round_ran r slots law v b c d e =
      subst (λ x. Both (ran ns (Some (tab ns v) ∷ Some x ∷ c ∷ d ∷ e ∷ rest) (calls (by_moves r 0 slots))) v (relax (table_of slots) v)) (sym (copied v))
      (by_moves_ran r 0 slots law v v c d e)

  -- peg 0 has the chart x, pegs 1 to 4 whatever they have
  pub record Front (ps : Pegs) (x : Chart) : Type 0 where
    pub one : Option Chart
    pub two : Option Chart
    pub three : Option Chart
    pub four : Option Chart
    pub is : ps ≡ Some x ∷ one ∷ two ∷ three ∷ four ∷ rest

  -- a round that is followed by the copy
  pub changing_ran : (r : ℕ) (slots : List (Option Move)) → AllByRecursion (LawfulSlot ns) slots → (v : Scene → Time) (b c d e : Option Chart) →
      Front (ran ns (Some (tab ns v) ∷ b ∷ c ∷ d ∷ e ∷ rest) (calls (changing slots r))) (tab ns (relax (table_of slots) v))
  changing_ran r slots law v b c d e =
      let n = round_ran r slots law v b c d e in
      let u : Scene → Time = relax (table_of slots) v in
      record {
        one = Some (tab ns u);
        two = n.two;
        three = n.three;
        four = n.four;
        is = ran_steps ns (Some (tab ns v) ∷ b ∷ c ∷ d ∷ e ∷ rest) (round r slots) (marked r None (copy 0 1 ∷ [])) ∙ ap (λ qs. ran ns qs (copy 0 1 ∷ [])) n.is
            ∙ ap (λ x. Some x ∷ Some (tab ns u) ∷ n.two ∷ n.three ∷ n.four ∷ rest) (copied u);
      }

  -- round 0
  masked_ran : (k : ℕ) (ms : List ℕ) → k + length ms ≡ length ns → (w : Scene → Time) (b c d e : Option Chart) →
      Front (ran ns (Some (tab ns w) ∷ b ∷ c ∷ d ∷ e ∷ rest) (masked k ms)) (tab ns (λ s. cond (wanted ms (drop k s)) (w s) None))
  masked_ran k [] h w b c d e = record { one = b; two = c; three = d; four = e; is = refl }
  masked_ran k (m ∷ ms) h w b c d e =
      let x : Chart = dialled ns k (entries (admitted m)) in
      let y : zipped plus (tab ns w) x ≡ tab ns (λ s. cond (admits m (get_or s k 0)) (w s) None) =
      ap (zipped plus (tab ns w)) (tab_dialled ns few k (admitted m)) ∙ tab_zipped ns plus w (λ s. admitted m (get_or s k 0))
      ∙ tab_as ns _ _ (λ s l. plus_only (w s) (admits m (get_or s k 0))) in
      let split : (s : Scene) → SceneOf ns s → drop k s ≡ get_or s k 0 ∷ drop (k + 1) s = λ s l. drop_more s k 0 (omega (arith, scene_length ns s l)) in
      let z : tab ns (λ s. cond (wanted ms (drop (k + 1) s)) (cond (admits m (get_or s k 0)) (w s) None) None) ≡ tab ns (λ s. cond (wanted (m ∷ ms) (drop k s)) (w s) None) =
      tab_as ns _ _ (λ s l. cond_and (admits m (get_or s k 0)) (wanted ms (drop (k + 1) s)) (w s) ∙ ap (λ q. cond (wanted (m ∷ ms) q) (w s) None) (sym (split s l))) in
      subst (λ q. Front (ran ns (Some q ∷ b ∷ c ∷ Some x ∷ e ∷ rest) (masked (k + 1) ms)) (tab ns (λ s. cond (wanted (m ∷ ms) (drop k s)) (w s) None))) (sym y)
      (subst (λ q. Front (ran ns (Some (tab ns (λ s. cond (admits m (get_or s k 0)) (w s) None)) ∷ b ∷ c ∷ Some x ∷ e ∷ rest) (masked (k + 1) ms)) q) z
      (masked_ran (k + 1) ms (omega arith) (λ s. cond (admits m (get_or s k 0)) (w s) None) b c (Some x) e))

  pub round_0_ran : (ms : List ℕ) → length ms ≡ length ns → 1 ≤ length ns → (a b c d e : Option Chart) →
      Front (ran ns (a ∷ b ∷ c ∷ d ∷ e ∷ rest) (round_0 ms)) (tab ns (initial (wanted ms)))
  round_0_ran [] h one a b c d e = absurd (omega arith)
  round_0_ran (m ∷ ms) h one a b c d e =
      let split : (s : Scene) → SceneOf ns s → s ≡ get_or s 0 0 ∷ drop 1 s = λ s l. drop_more s 0 0 (omega (arith, scene_length ns s l)) in
      let z : tab ns (λ s. cond (wanted ms (drop 1 s)) (admitted m (get_or s 0 0)) None) ≡ tab ns (initial (wanted (m ∷ ms))) =
      tab_as ns _ _ (λ s l. cond_and (admits m (get_or s 0 0)) (wanted ms (drop 1 s)) (Some 0) ∙ ap (λ q. cond (wanted (m ∷ ms) q) (Some 0) None) (sym (split s l))) in
      subst (λ q. Front (ran ns (Some q ∷ b ∷ c ∷ d ∷ e ∷ rest) (masked 1 ms)) (tab ns (initial (wanted (m ∷ ms))))) (sym (tab_dialled ns few 0 (admitted m)))
      (subst (λ q. Front (ran ns (Some (tab ns (λ s. admitted m (get_or s 0 0))) ∷ b ∷ c ∷ d ∷ e ∷ rest) (masked 1 ms)) q) z
      (masked_ran 1 ms (omega arith) (λ s. admitted m (get_or s 0 0)) b c d e))
