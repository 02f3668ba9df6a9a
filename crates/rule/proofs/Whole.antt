-- What the whole rule leaves on the pegs. Assumes nothing.
use Rattle.std.proofs.Common.{◌≡◌, ℕ, zero, suc, ◌+◌, ◌≤◌, Bool, List, [], ◌∷◌, length, get_or, Some, None, Option, sym, refl, ap, ◌∙◌, subst, arith}
use Rattle.std.specs.List.{range_with_len, flat_map, AllByRecursion}
use Rattle.model.specs.Limits.{peg_count}
use Rattle.model.specs.Scenes.{Shape, Scene}
use Rattle.model.specs.Charts.{Time, Chart, at}
use Rattle.model.specs.Masks.{wanted}
use Rattle.model.specs.Moves.{Move}
use Rattle.model.specs.Shelves.{Pegs}
use Rattle.model.proofs.Ranks.{tabulated}
use Rattle.theory.specs.Actions.{Table}
use Rattle.theory.specs.Iteration.{initial, relax, rounds, through}
use Rattle.theory.specs.Wellformed.{LawfulSlot}
use Rattle.theory.specs.Tables.{action_of, table_of}
use Rattle.theory.proofs.Times.{settled_right}
use Rattle.theory.proofs.Told.{contents_told}
use Rattle.theory.proofs.Tabling.{tables_lawful}
use Rattle.rule.specs.Steps.{calls, round_0, tried, round, changing}
use Rattle.rule.specs.Running.{ran}
use Rattle.rule.specs.Rule.{chart_after, count, start, so_far}
use Rattle.rule.specs.Bridge.{tab, MovesTried, RoundsRun, StartsRun, RoundsShown, RuleRight}
use Rattle.rule.proofs.Tabs.{Few, tab_as}
use Rattle.rule.proofs.Blocks.{tried_ran}
use Rattle.rule.proofs.Rounds.{ran_steps, ran_marked, round_ran, Front, changing_ran, round_0_ran}
use Rattle.rule.proofs.Counts.{rounds_counted}

-- a chart of value iteration is made of its own entries
pub rounds_tab : (ns : Shape) (acts : Table) (goal : Scene → Bool) (r : ℕ) → rounds ns acts goal r ≡ tab ns (at ns (rounds ns acts goal r))
rounds_tab ns acts goal zero = tab_as ns _ _ (λ s l. sym (tabulated ns (initial goal) s l))
rounds_tab ns acts goal (suc r) = tab_as ns _ _ (λ s l. sym (tabulated ns (relax acts (at ns (rounds ns acts goal r))) s l))

module _ (ns : Shape) (few : Few ns) (slots : List (Option Move)) (law : AllByRecursion (LawfulSlot ns) slots) (masks : List ℕ) where
  abbrev chart : ℕ → Chart
  chart = rounds ns (table_of slots) (wanted masks)

  -- n rounds more, numbered from j
  pub more_ran : (rest : Pegs) (j n k : ℕ) (b c d e : Option Chart) →
      Front ns few rest (ran ns (Some (chart k) ∷ b ∷ c ∷ d ∷ e ∷ rest) (calls (flat_map (changing slots) (range_with_len j n)))) (chart (n + k))
  more_ran rest j zero k b c d e = subst (λ i. Front ns few rest (Some (chart k) ∷ b ∷ c ∷ d ∷ e ∷ rest) (chart i)) (omega arith) (record { one = b; two = c; three = d; four = e; is = refl })
  more_ran rest j (suc n) k b c d e =
      let v : Scene → Time = at ns (chart k) in
      let ps : Pegs = Some (tab ns v) ∷ b ∷ c ∷ d ∷ e ∷ rest in
      let one = changing_ran ns few rest j slots law v b c d e in
      let left = flat_map (changing slots) (range_with_len (j + 1) n) in
      let path : ran ns (Some (chart k) ∷ b ∷ c ∷ d ∷ e ∷ rest) (calls (flat_map (changing slots) (range_with_len j (suc n)))) ≡ ran ns (Some (chart (suc k)) ∷ one.one ∷ one.two ∷ one.three ∷ one.four ∷ rest) (calls left) =
      ap (λ x. ran ns (Some x ∷ b ∷ c ∷ d ∷ e ∷ rest) (calls (flat_map (changing slots) (range_with_len j (suc n))))) (rounds_tab ns (table_of slots) (wanted masks) k)
      ∙ ran_steps ns ps (changing slots j) left ∙ ap (λ qs. ran ns qs (calls left)) one.is in
      let count : n + suc k ≡ suc n + k = omega arith in
      subst (λ qs. Front ns few rest qs (chart (suc n + k))) (sym path)
      (subst (λ i. Front ns few rest (ran ns (Some (chart (suc k)) ∷ one.one ∷ one.two ∷ one.three ∷ one.four ∷ rest) (calls left)) (chart i)) count
      (more_ran rest (j + 1) n (suc k) one.one one.two one.three one.four))

  pub start_ran : length masks ≡ length ns → 1 ≤ length ns → (rest : Pegs) (n : ℕ) (a b c d e : Option Chart) →
      Front ns few rest (ran ns (a ∷ b ∷ c ∷ d ∷ e ∷ rest) (calls (start slots masks n))) (chart n)
  start_ran h one rest n a b c d e =
      let z = round_0_ran ns few rest masks h one a b c d e in
      let left = flat_map (changing slots) (range_with_len 1 n) in
      let same : n + 0 ≡ n = omega arith in
      subst (λ qs. Front ns few rest qs (chart n)) (sym (ran_marked ns (a ∷ b ∷ c ∷ d ∷ e ∷ rest) 0 None (round_0 masks) left ∙ ap (λ qs. ran ns qs (calls left)) z.is))
      (subst (λ i. Front ns few rest (ran ns (Some (chart 0) ∷ z.one ∷ z.two ∷ z.three ∷ z.four ∷ rest) (calls left)) (chart i)) same
      (more_ran rest 1 n 0 z.one z.two z.three z.four))

-- eight pegs, of which the first five are named
pub record Five (ps : Pegs) : Type 0 where
  pub zeroth : Option Chart
  pub one : Option Chart
  pub two : Option Chart
  pub three : Option Chart
  pub four : Option Chart
  pub rest : Pegs
  pub is : ps ≡ zeroth ∷ one ∷ two ∷ three ∷ four ∷ rest

pub five : (ps : Pegs) → length ps ≡ peg_count → Five ps
five [] h = absurd (omega arith)
five (a ∷ []) h = absurd (omega arith)
five (a ∷ b ∷ []) h = absurd (omega arith)
five (a ∷ b ∷ c ∷ []) h = absurd (omega arith)
five (a ∷ b ∷ c ∷ d ∷ []) h = absurd (omega arith)
five (a ∷ b ∷ c ∷ d ∷ e ∷ rest) h = record { zeroth = a; one = b; two = c; three = d; four = e; rest = rest; is = refl }

-- the pegs past the fifth are those of the rest
upper_is : (a b c d e a' b' c' d' e' : Option Chart) (rest : Pegs) (p : ℕ) → 5 ≤ p → get_or (a ∷ b ∷ c ∷ d ∷ e ∷ rest) p None ≡ get_or (a' ∷ b' ∷ c' ∷ d' ∷ e' ∷ rest) p None
upper_is a b c d e a' b' c' d' e' rest zero h = absurd (omega arith)
upper_is a b c d e a' b' c' d' e' rest (suc zero) h = absurd (omega arith)
upper_is a b c d e a' b' c' d' e' rest (suc (suc zero)) h = absurd (omega arith)
upper_is a b c d e a' b' c' d' e' rest (suc (suc (suc zero))) h = absurd (omega arith)
upper_is a b c d e a' b' c' d' e' rest (suc (suc (suc (suc zero)))) h = absurd (omega arith)
upper_is a b c d e a' b' c' d' e' rest (suc (suc (suc (suc (suc p))))) h = refl

pub moves_tried : MovesTried
moves_tried ns shape m law ps long v h =
    let k = five ps long in
    let at_0 : k.zeroth ≡ Some (tab ns v) = ap (λ qs. get_or qs 0 None) (sym k.is) ∙ h in
    let z = tried_ran ns shape.each_few k.zeroth k.one k.rest m law v at_0 k.two k.three k.four in
    let w : Scene → Time = through (Some (action_of m)) v in
    let e : ran ns ps (tried m) ≡ k.zeroth ∷ k.one ∷ Some (tab ns w) ∷ z.three ∷ z.four ∷ k.rest = ap (λ qs. ran ns qs (tried m)) k.is ∙ z.is in
    record {
      first = ap (λ qs. get_or qs 0 None) e ∙ ap (λ qs. get_or qs 0 None) (sym k.is);
      second = ap (λ qs. get_or qs 1 None) e ∙ ap (λ qs. get_or qs 1 None) (sym k.is);
      upper = λ p le. ap (λ qs. get_or qs p None) e ∙ upper_is _ _ _ _ _ _ _ _ _ _ k.rest p le ∙ ap (λ qs. get_or qs p None) (sym k.is);
      chart = tab ns w;
      hangs = ap (λ qs. get_or qs 2 None) e;
      times = λ s l. tabulated ns w s l;
    }

pub rounds_run : RoundsRun
rounds_run ns shape slots law ps long v h r =
    let k = five ps long in
    let at_0 : k.zeroth ≡ Some (tab ns v) = ap (λ qs. get_or qs 0 None) (sym k.is) ∙ h in
    let z = round_ran ns shape.each_few k.rest r slots law v k.one k.two k.three k.four in
    let e : ran ns ps (calls (round r slots)) ≡ Some (tab ns v) ∷ Some (tab ns (relax (table_of slots) v)) ∷ z.two ∷ z.three ∷ z.four ∷ k.rest =
    ap (λ qs. ran ns qs (calls (round r slots))) (k.is ∙ ap (λ o. o ∷ k.one ∷ k.two ∷ k.three ∷ k.four ∷ k.rest) at_0) ∙ z.is in
    (ap (λ qs. get_or qs 0 None) e, ap (λ qs. get_or qs 1 None) e)

pub starts_run : StartsRun
starts_run c law ps long n =
    let k = five ps long in
    let told = contents_told c law in
    let z = start_ran c.settings told.shape.each_few c.slots told.each_slot c.masks told.as_many_masks told.shape.some k.rest n k.zeroth k.one k.two k.three k.four in
    subst (λ qs. get_or (ran c.settings qs (calls (start c.slots c.masks n))) 0 None ≡ Some (chart_after c n)) (sym k.is)
    (ap (λ qs. get_or qs 0 None) z.is)

pub rounds_shown : RoundsShown
rounds_shown c law ps long n =
    let ns = c.settings in
    let slots = c.slots in
    let f : ℕ → Chart = chart_after c in
    let k = five ps long in
    let told = contents_told c law in
    let few = told.shape.each_few in
    let z = start_ran ns few slots told.each_slot c.masks told.as_many_masks told.shape.some k.rest n k.zeroth k.one k.two k.three k.four in
    let y = round_ran ns few k.rest (n + 1) slots told.each_slot (at ns (f n)) z.one z.two z.three z.four in
    let self = rounds_tab ns (table_of slots) (wanted c.masks) n in
    let e : ran ns ps (calls (so_far c n)) ≡ Some (f n) ∷ Some (f (suc n)) ∷ y.two ∷ y.three ∷ y.four ∷ k.rest =
    ran_steps ns ps (start slots c.masks n) (round (n + 1) slots)
    ∙ ap (λ qs. ran ns (ran ns qs (calls (start slots c.masks n))) (calls (round (n + 1) slots))) k.is
    ∙ ap (λ qs. ran ns qs (calls (round (n + 1) slots))) (z.is ∙ ap (λ x. Some x ∷ z.one ∷ z.two ∷ z.three ∷ z.four ∷ k.rest) self)
    ∙ y.is ∙ ap (λ x. Some x ∷ Some (f (suc n)) ∷ y.two ∷ y.three ∷ y.four ∷ k.rest) (sym self) in
    record {
      first = ap (λ qs. get_or qs 0 None) e;
      second = ap (λ qs. get_or qs 1 None) e;
      upper = λ p le. ap (λ qs. get_or qs p None) e ∙ upper_is _ _ _ _ _ _ _ _ _ _ k.rest p le ∙ ap (λ qs. get_or qs p None) (sym k.is);
    }

pub rule_right : RuleRight
rule_right c law ps long =
    let s = rounds_shown c law ps long (count c) in
    let settled = (rounds_counted c law).settled in
    record {
      first = s.first;
      second = s.second ∙ ap Some settled;
      upper = s.upper;
      right = settled_right c.settings (table_of c.slots) (wanted c.masks) (tables_lawful c law) (count c) settled;
    }
