-- Rounds one after another, until one makes no scene cheaper. Assumes nothing.
use Rattle.std.proofs.Common.{◌≡◌, ℕ, zero, suc, ◌+◌, ◌-◌, ◌^◌, ◌<◌, ◌≤◌, Bool, true, false, ◌≢◌, ◌⊎◌, List, [], ◌∷◌, ◌++◌, length, get_or, IsErrAnd, Some, None, Ok, Err, Option, Result, sym, refl, ap, ◌∙◌, subst, inl, inr, ⊎_elim, arith}
use Rattle.std.specs.List.{range_with_len, flat_map}
use Rattle.std.proofs.lemmas.List.{append_assoc, append-nil}
use Rattle.model.specs.Limits.{peg_count}
use Rattle.model.specs.Charts.{same_chart}
use Rattle.model.specs.Moves as model
use Rattle.model.specs.Contents.{Contents}
use Rattle.model.specs.Calls.{Lawful}
use Rattle.model.specs.Shelves.{Meaning, on, bare}
use Rattle.theory.proofs.Told.{contents_told}
use Rattle.rule.specs.Steps.{Step, marked, copy, round_0, round, changing}
use Rattle.rule.specs.Rule.{chart_after, count, rule}
use Rattle.rule.proofs.Bounds.{size_most}
use Rattle.rule.proofs.Counts.{rounds_counted, same_is, same_self}
use Rattle.steps.specs.declared.halt.Halt.{Halt}
use Rattle.steps.specs.declared.fault.PlanFault.{PlanFault}
use Rattle.steps.specs.declared.fault.PlanFault.TheVariants.{NoRoom}
use Rattle.steps.specs.Faults.{OfHalt, OfFault}
use Rattle.steps.specs.Ends.{ends, leaves, Ended, Made}
use Rattle.rounds.specs.Rounds.{rounds_after, Counted}
use Rattle.steps.proofs.Steps.{Onward, more, all_made}
use Rattle.rounds.proofs.OfRounds.{made_broken, made_passed}
use Rattle.rounds.proofs.Leaving.{leaves_shape, hung_peg, round_leaves, copy_leaves}

-- the rest of the rule after n rounds

pub last_round : (c : Contents) (n : ℕ) → n ≡ count c → rounds_after c n ≡ round (n + 1) c.slots
last_round c n e =
    let z : count c - n ≡ 0 = omega arith in
    ap (λ k. flat_map (changing c.slots) (range_with_len (n + 1) k) ++ round (count c + 1) c.slots) z ∙ ap (λ k. round (k + 1) c.slots) (sym e)

pub next_round : (c : Contents) (n : ℕ) → n < count c → rounds_after c n ≡ round (n + 1) c.slots ++ (marked (n + 1) None (copy 0 1 ∷ []) ++ rounds_after c (n + 1))
next_round c n h =
    let z : count c - n ≡ suc (count c - (n + 1)) = omega arith in
    let f = changing c.slots in
    let here = round (n + 1) c.slots in
    let last = marked (n + 1) None (copy 0 1 ∷ []) in
    let later = flat_map f (range_with_len (n + 1 + 1) (count c - (n + 1))) in
    let end = round (count c + 1) c.slots in
    ap (λ k. flat_map f (range_with_len (n + 1) k) ++ end) z ∙ append_assoc (f (n + 1)) later end ∙ append_assoc here last (later ++ end)

pub rule_parts : (c : Contents) → rule c ≡ marked 0 None (round_0 c.masks) ++ rounds_after c 0
rule_parts c =
    let z : count c ≡ count c - 0 = omega arith in
    let zeroth = marked 0 None (round_0 c.masks) in
    let end = round (count c + 1) c.slots in
    append_assoc zeroth (flat_map (changing c.slots) (range_with_len 1 (count c))) end
    ∙ ap (λ k. zeroth ++ (flat_map (changing c.slots) (range_with_len 1 k) ++ end)) z

-- n rounds were made, each of which made some scene cheaper
pub record Going (c : Contents) (start m : Meaning) (n : ℕ) : Type 0 where
  pub lawful : Lawful c
  pub long : length m.pegs ≡ peg_count
  pub onward : Onward start (rounds_after c 0) m (rounds_after c n)
  pub shape : m.shape ≡ c.settings
  pub first : get_or m.pegs 0 None ≡ Some (chart_after c n)
  pub changed : (i : ℕ) → i < n → chart_after c (suc i) ≢ chart_after c i
  pub few : n ≤ count c

-- no round is counted that a number of 64 bits cannot hold
pub count_small : {c : Contents} → Lawful c → count c ≤ 8 ^ 12
count_small {c} law = omega (arith, (rounds_counted c law).few, size_most c.settings (contents_told c law).shape)

-- the exit of a `?` counts nothing
pub nothing_counted : (c : Contents) (e : PlanFault) (a : Result ℕ PlanFault) → IsErrAnd a (λ y. y ≡ e) → Counted c a
nothing_counted c e (Ok n) b = absurd b
nothing_counted c e (Err f) b = tt

compare_counts : (n k : ℕ) → n ≤ k → (n ≡ k) ⊎ (n < k)
compare_counts n k h = go n k h
  where
    go : (n k : ℕ) → n ≤ k → (n ≡ k) ⊎ (n < k)
    go zero zero h = inl refl
    go zero (suc k) h = inr (omega arith)
    go (suc n) zero h = absurd (omega arith)
    go (suc n) (suc k) h = ⊎_elim (λ e. inl (ap suc e)) (λ l. inr (omega arith)) (go n k (omega arith))

false_is_not_true : (b : Bool) → b ≡ false → b ≡ true → ⊥
false_is_not_true b e f = let z : ◌≡◌ {A = Bool} false true = sym e ∙ f in let y : ◌≡◌ {A = ℕ} 0 1 = cc in absurd (omega arith)

-- one round more
module _ {c : Contents} {start m : Meaning} {n : ℕ} (g : Going c start m n) {slots : List (Option model.Move)} (e : slots ≡ c.slots) where
  split : (ys : List Step) × (rounds_after c n ≡ round (n + 1) slots ++ ys)
  split = ⊎_elim
      (λ z. ([], last_round c n z ∙ ap (round (n + 1)) (sym e) ∙ sym (append-nil (round (n + 1) slots))))
      (λ l. (marked (n + 1) None (copy 0 1 ∷ []) ++ rounds_after c (n + 1), next_round c n l ∙ ap (λ xs. round (n + 1) xs ++ (marked (n + 1) None (copy 0 1 ∷ []) ++ rounds_after c (n + 1))) (sym e)))
      (compare_counts n (count c) g.few)

  -- the round was refused
  pub round_broken : {X : Type 0} {k : Meaning} (f : PlanFault) (a : Result X PlanFault) → IsErrAnd a (λ y. y ≡ f) → Made {X = Unit {0}} m (round (n + 1) slots) (Err f) k → Made start (rounds_after c 0) a k
  round_broken {k = k} f a b h = made_passed (round (n + 1) slots) split.0 k f a b (subst (Onward start (rounds_after c 0) m) split.1 g.onward) h

  -- it was made
  module _ {k : Meaning} (h : (ends m (round (n + 1) slots) ≡ Ok tt) × (k ≡ leaves m (round (n + 1) slots))) where
    both : (get_or k.pegs 0 None ≡ Some (chart_after c n)) × (get_or k.pegs 1 None ≡ Some (chart_after c (suc n)))
    both =
        let made : (ends m (round (n + 1) c.slots) ≡ Ok tt) × (k ≡ leaves m (round (n + 1) c.slots)) =
        subst (λ xs. (ends m (round (n + 1) xs) ≡ Ok tt) × (k ≡ leaves m (round (n + 1) xs))) e h in
        subst (λ (j : Meaning). (get_or j.pegs 0 None ≡ Some (chart_after c n)) × (get_or j.pegs 1 None ≡ Some (chart_after c (suc n)))) (sym made.1)
        (round_leaves c g.lawful m g.shape g.long n g.first made.0)

    pub hung_both : (bare k.pegs 0 ≡ false) × (bare k.pegs 1 ≡ false)
    hung_both = ((hung_peg k.pegs 0 (chart_after c n) both.0).0, (hung_peg k.pegs 1 (chart_after c (suc n)) both.1).0)

    compared : same_chart (on k.pegs 0) (on k.pegs 1) ≡ same_chart (chart_after c n) (chart_after c (suc n))
    compared = ap (λ x. same_chart x (on k.pegs 1)) (hung_peg k.pegs 0 (chart_after c n) both.0).1 ∙ ap (same_chart (chart_after c n)) (hung_peg k.pegs 1 (chart_after c (suc n)) both.1).1

    -- it made no scene cheaper
    module _ (same : same_chart (on k.pegs 0) (on k.pegs 1) ≡ true) where
      pub counted : n ≡ count c
      counted = (rounds_counted c g.lawful).alone n g.changed (sym (same_is (chart_after c n) (chart_after c (suc n)) (sym compared ∙ same)))

      pub rounds_made : (ends start (rounds_after c 0) ≡ Ok tt) × (k ≡ leaves start (rounds_after c 0))
      rounds_made =
          let only : rounds_after c n ≡ round (n + 1) slots ++ [] = last_round c n counted ∙ ap (round (n + 1)) (sym e) ∙ sym (append-nil (round (n + 1) slots)) in
          all_made (more {X = Unit {0}} OfFault (round (n + 1) slots) [] k tt (subst (Onward start (rounds_after c 0) m) only g.onward) h)

    -- it made some scene cheaper
    module _ (other : same_chart (on k.pegs 0) (on k.pegs 1) ≡ false) where
      cheaper_made : chart_after c (suc n) ≢ chart_after c n
      cheaper_made z = false_is_not_true (same_chart (chart_after c n) (chart_after c (suc n))) (sym compared ∙ other) (ap (same_chart (chart_after c n)) z ∙ same_self (chart_after c n))

      pub below_count : n < count c
      below_count = ⊎_elim
          (λ z. absurd (cheaper_made (subst (λ i. chart_after c (suc i) ≡ chart_after c i) (sym z) (rounds_counted c g.lawful).settled)))
          (λ l. l)
          (compare_counts n (count c) g.few)

      after_round : Onward start (rounds_after c 0) k (marked (n + 1) None (copy 0 1 ∷ []) ++ rounds_after c (n + 1))
      after_round =
          let parts : rounds_after c n ≡ round (n + 1) slots ++ (marked (n + 1) None (copy 0 1 ∷ []) ++ rounds_after c (n + 1)) =
          next_round c n below_count ∙ ap (λ xs. round (n + 1) xs ++ (marked (n + 1) None (copy 0 1 ∷ []) ++ rounds_after c (n + 1))) (sym e) in
          more {X = Unit {0}} OfFault (round (n + 1) slots) (marked (n + 1) None (copy 0 1 ∷ []) ++ rounds_after c (n + 1)) k tt (subst (Onward start (rounds_after c 0) m) parts g.onward) h

      -- the copy was refused
      pub copy_broken : {X : Type 0} {j : Meaning} (f : Halt) (a : Result X PlanFault) → IsErrAnd a (λ y. y ≡ NoRoom f.fault f.call f.round None) →
          Ended {X = Unit {0}} (OfHalt None) k (marked (n + 1) None (copy 0 1 ∷ [])) (Err f) j → Made start (rounds_after c 0) a j
      copy_broken {j = j} f a b w = made_broken (marked (n + 1) None (copy 0 1 ∷ [])) (rounds_after c (n + 1)) j f a b after_round w

      -- it was made
      pub going_on : {j : Meaning} → length k.pegs ≡ peg_count → length j.pegs ≡ peg_count → (ends k (marked (n + 1) None (copy 0 1 ∷ [])) ≡ Ok tt) × (j ≡ leaves k (marked (n + 1) None (copy 0 1 ∷ []))) → Going c start j (n + 1)
      going_on {j} eight long w =
          let z : suc n ≡ n + 1 = omega arith in
          let shape_k : k.shape ≡ c.settings = ap (λ (i : Meaning). i.shape) h.1 ∙ leaves_shape m (round (n + 1) slots) ∙ g.shape in
          let at_0 : get_or j.pegs 0 None ≡ Some (chart_after c (suc n)) = ap (λ (i : Meaning). get_or i.pegs 0 None) w.1 ∙ copy_leaves c g.lawful k shape_k eight n (n + 1) both.1 w.0 in
          record {
            lawful = g.lawful;
            long = long;
            onward = more {X = Unit {0}} (OfHalt None) (marked (n + 1) None (copy 0 1 ∷ [])) (rounds_after c (n + 1)) j tt after_round w;
            shape = ap (λ (i : Meaning). i.shape) w.1 ∙ leaves_shape k (marked (n + 1) None (copy 0 1 ∷ [])) ∙ shape_k;
            first = at_0 ∙ ap (λ i. Some (chart_after c i)) z;
            changed = changed_more;
            few = omega (arith, below_count);
          }
        where
          changed_more : (i : ℕ) → i < n + 1 → chart_after c (suc i) ≢ chart_after c i
          changed_more i l = ⊎_elim
              (λ z. subst (λ q. chart_after c (suc q) ≢ chart_after c q) (sym z) cheaper_made)
              (λ l. g.changed i l)
              (compare_counts i n (omega arith))
