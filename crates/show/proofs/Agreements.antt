-- Two plans of rigs that are alike say the same. Assumes nothing.
use Rattle.std.proofs.Common.{◌≡◌, ℕ, List, [], ◌∷◌, ◌++◌, length, take, drop, Some, None, Ok, Err, Result, sym, refl, ap, ◌∙◌, arith}
use Rattle.model.specs.Contents.{Contents}
use Rattle.model.specs.Shelves.{Meaning}
use Rattle.theory.specs.Alike.{Alike}
use Rattle.theory.proofs.Alikes.{alike_back, ways_alike, best_alike}
use Rattle.rule.specs.Rule.{count}
use Rattle.rule.proofs.Counts.{counts_alike}
use Rattle.planner.specs.declared.answer.Plan.{Plan}
use Rattle.planner.specs.declared.answer.Plan.TheVariants.{Way, NoWay}
use Rattle.steps.specs.declared.fault.PlanFault.{PlanFault}
use Rattle.steps.specs.Faults.{number}
use Rattle.planner.specs.Plans.{Filled, refusal, Planned}
use Rattle.show.specs.Agreeing.{Agree, PlansAgree}

take_front : (is rest : List ℕ) → take (length is) (is ++ rest) ≡ is
take_front [] rest = refl
take_front (i ∷ is) rest = ap (λ ys. i ∷ ys) (take_front is rest)

pub front : (c : Contents) (n t : ℕ) (old new : List ℕ) (w : Filled c n t old new) → take n new ≡ w.moves
front c n t old new w = ap (λ k. take k new) w.many ∙ ap (take (length w.moves)) w.sheet ∙ take_front w.moves (drop n old)

sent_back : (e : PlanFault) → Some (number e) ≡ None → ⊥
sent_back e h = let z : ◌≡◌ {A = ℕ} 0 1 = cc in absurd (omega arith)

module _ (c d : Contents) (alike : Alike c d) (m m' k k' : Meaning) (old new old' new' : List ℕ) where
  same_count : (r s : ℕ) → r ≡ count c → s ≡ count d → c.settings ≡ d.settings → r ≡ s
  same_count r s e f same = e ∙ counts_alike c d alike same ∙ sym f

  agreed : (a b : Result Plan PlanFault) → Planned c m old a m' new → Planned d k old' b k' new' → refusal a ≡ None → refusal b ≡ None → Agree (c.settings ≡ d.settings) a new b new'
  agreed (Ok (Way n t r)) (Ok (Way i u s)) p q x y =
      let v = p.way n t r refl in
      let w = q.way i u s refl in
      let both = best_alike c d alike v.0.moves w.0.moves t u v.0.best w.0.best in (
        front c n t old new v.0 ∙ both.0 ∙ sym (front d i u old' new' w.0),
        v.0.many ∙ ap length both.0 ∙ sym w.0.many,
        both.1,
        same_count r s v.1 w.1,
      )
  agreed (Ok (Way n t r)) (Ok (NoWay s)) p q x y =
      let v = p.way n t r refl in
      (q.no_way refl).0 (s, refl) v.0.moves t (ways_alike c d alike v.0.moves t v.0.best.way)
  agreed (Ok (Way n t r)) (Err e) p q x y = sent_back e y
  agreed (Ok (NoWay r)) (Ok (Way i u s)) p q x y =
      let w = q.way i u s refl in
      (p.no_way refl).0 (r, refl) w.0.moves u (ways_alike d c (alike_back c d alike) w.0.moves u w.0.best.way)
  agreed (Ok (NoWay r)) (Ok (NoWay s)) p q x y = same_count r s (p.rounds r refl) (q.rounds s refl)
  agreed (Ok (NoWay r)) (Err e) p q x y = sent_back e y
  agreed (Err e) b p q x y = sent_back e x

pub plans_agree : PlansAgree
plans_agree c d alike one other =
    agreed c d alike one.before one.after other.before other.after one.blank one.sheet other.blank other.sheet one.answer other.answer one.planned other.planned one.accepted other.accepted
