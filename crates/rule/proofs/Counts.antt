-- How many rounds there are. Assumes nothing.
use Rattle.std.proofs.Common.{◌≡◌, ℕ, zero, suc, ◌+◌, ◌<◌, ◌≤◌, Bool, true, false, cond, ◌≢◌, [], ◌∷◌, Some, None, refl, ap, ◌∙◌, subst, ⊎_elim, arith}
use Rattle.std.proofs.lemmas.Bool.{eqb-true, eq-eqb, both_ways, false≢true, cases_lt, cases_order, and_parts}
use Rattle.model.specs.Charts.{Time, Chart, same_time, same_chart}
use Rattle.model.specs.Scenes.{size}
use Rattle.model.specs.Masks.{wanted}
use Rattle.model.specs.Contents.{Contents}
use Rattle.theory.specs.Iteration.{rounds}
use Rattle.theory.specs.Tables.{table_of}
use Rattle.theory.specs.Alike.{Alike}
use Rattle.theory.proofs.Alikes.{tables_alike, rounds_alike}
use Rattle.theory.proofs.Cycles.{rounds_stop}
use Rattle.theory.proofs.Tabling.{tables_lawful}
use Rattle.rule.specs.Rule.{chart_after, settles, count}
use Rattle.rule.specs.Bridge.{RoundsCounted, CountsAlike}

same_time_is : (x y : Time) → same_time x y ≡ true → x ≡ y
same_time_is None None h = refl
same_time_is None (Some b) h = absurd (false≢true h)
same_time_is (Some a) None h = absurd (false≢true h)
same_time_is (Some a) (Some b) h = ap Some (eqb-true a b h)

pub same_is : (x y : Chart) → same_chart x y ≡ true → x ≡ y
same_is [] [] h = refl
same_is [] (y ∷ ys) h = absurd (false≢true h)
same_is (x ∷ xs) [] h = absurd (false≢true h)
same_is (x ∷ xs) (y ∷ ys) h = let two = and_parts _ _ h in λ i. same_time_is x y two.0 i ∷ same_is xs ys two.1 i

same_time_self : (x : Time) → same_time x x ≡ true
same_time_self None = refl
same_time_self (Some a) = eq-eqb a a refl

pub same_self : (x : Chart) → same_chart x x ≡ true
same_self [] = refl
same_self (x ∷ xs) = rw (same_time_self x, same_self xs)

module _ (f : ℕ → Chart) where
  settled_go : (n r : ℕ) → f (suc (settles f n (suc r))) ≡ f (settles f n (suc r)) → (b : Bool) → same_chart (f (suc r)) (f r) ≡ b → f (suc (cond b r (settles f n (suc r)))) ≡ f (cond b r (settles f n (suc r)))
  settled_go n r h true e = same_is _ _ e
  settled_go n r h false e = h

  -- the last of n rounds settles
  pub settles_settled : (n r : ℕ) → f (suc (n + r)) ≡ f (n + r) → f (suc (settles f n r)) ≡ f (settles f n r)
  settles_settled zero r h = let z : 0 + r ≡ r = omega arith in subst (λ i. f (suc i) ≡ f i) z h
  settles_settled (suc n) r h =
      let z : suc n + r ≡ n + suc r = omega arith in
      settled_go n r (settles_settled n (suc r) (subst (λ i. f (suc i) ≡ f i) z h)) (same_chart (f (suc r)) (f r)) refl

  few_go : (n r : ℕ) → settles f n (suc r) ≤ n + suc r → (b : Bool) → cond b r (settles f n (suc r)) ≤ suc n + r
  few_go n r h true = omega arith
  few_go n r h false = omega arith

  pub settles_few : (n r : ℕ) → settles f n r ≤ n + r
  settles_few zero r = omega arith
  settles_few (suc n) r = few_go n r (settles_few n (suc r)) (same_chart (f (suc r)) (f r))

  changed_go : (n r i : ℕ) → (suc r ≤ i → i < settles f n (suc r) → f (suc i) ≢ f i) → r ≤ i → f (suc i) ≡ f i → (b : Bool) → same_chart (f (suc r)) (f r) ≡ b → i < cond b r (settles f n (suc r)) → ⊥
  changed_go n r i h le e true q k = absurd (omega arith)
  changed_go n r i h le e false q k =
      ⊎_elim
      (λ more. h (omega arith) k e)
      (λ here.
      let z : i ≡ r = omega arith in
      let g : f (suc r) ≡ f r = subst (λ j. f (suc j) ≡ f j) z e in
      both_ways _ q (subst (λ c. same_chart (f (suc r)) c ≡ true) g (same_self (f (suc r)))))
      (cases_lt r i)

  pub settles_changed : (n r i : ℕ) → r ≤ i → i < settles f n r → f (suc i) ≢ f i
  settles_changed zero r i h k e = absurd (omega arith)
  settles_changed (suc n) r i h k e = changed_go n r i (settles_changed n (suc r) i) h e (same_chart (f (suc r)) (f r)) refl k

pub rounds_counted : RoundsCounted
rounds_counted c law =
    let f : ℕ → Chart = chart_after c in
    let n = size c.settings in
    let end = settles_settled f n 0 (rounds_stop c.settings (table_of c.slots) (wanted c.masks) (tables_lawful c law) (n + 0) (omega arith)) in
    record {
      changed = λ r h. settles_changed f n 0 r (omega arith) h;
      settled = end;
      few = omega (arith, settles_few f n 0);
      alone = λ r before e.
          ⊎_elim
          (λ same. same)
          (λ apart. ⊎_elim
          (λ less. absurd (settles_changed f n 0 r (omega arith) less e))
          (λ more. absurd (before (count c) more end))
          apart)
          (cases_order r (count c));
    }

-- Contents that are alike

settles_alike : (f g : ℕ → Chart) → ((r : ℕ) → f r ≡ g r) → (n r : ℕ) → settles f n r ≡ settles g n r
settles_alike f g h zero r = refl
settles_alike f g h (suc n) r = λ i. cond (same_chart (h (suc r) i) (h r i)) r (settles_alike f g h n (suc r) i)

charts_alike : (c d : Contents) → Alike c d → c.settings ≡ d.settings → (r : ℕ) → chart_after c r ≡ chart_after d r
charts_alike c d h same r =
    rounds_alike c.settings (table_of c.slots) (table_of d.slots) (wanted c.masks) (tables_alike c d h) r
    ∙ ap (λ ns. rounds ns (table_of d.slots) (wanted c.masks) r) same
    ∙ ap (λ ms. rounds d.settings (table_of d.slots) (wanted ms) r) h.same_masks

pub counts_alike : CountsAlike
counts_alike c d h same =
    settles_alike (chart_after c) (chart_after d) (charts_alike c d h same) (size c.settings) 0 ∙ ap (λ ns. settles (chart_after d) (size ns) 0) same
