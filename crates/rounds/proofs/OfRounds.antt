-- The calls of a round, as the code makes them. Assumes nothing.
use Rattle.std.proofs.Common.{◌≡◌, ℕ, ◌+◌, ◌<◌, ◌≤◌, List, [], ◌∷◌, ◌++◌, map, length, get_or, drop, IsErrAnd, Some, None, Ok, Err, Option, Result, sym, ◌∙◌, subst}
use Rattle.std.specs.Result.{MatchResult}
use Rattle.std.proofs.lemmas.List.{drop_more, drop_all}
use Rattle.model.specs.Shelves.{Meaning, Call}
use Rattle.rule.specs.Steps.{Step, of_slot, marked, by_moves}
use Rattle.moves.specs.declared.entry.Move.{Move}
use Rattle.moves.specs.Views.{slot_of}
use Rattle.steps.specs.declared.halt.Halt.{Halt}
use Rattle.steps.specs.declared.round.Round.{Round}
use Rattle.steps.specs.declared.fault.PlanFault.{PlanFault}
use Rattle.steps.specs.declared.fault.PlanFault.TheVariants.{NoRoom}
use Rattle.steps.specs.Faults.{Stop, OfHalt, OfFault}
use Rattle.steps.specs.Ends.{Ended, Hung, Took, Made}
use Rattle.rounds.specs.Rounds.{Stepped}
use Rattle.steps.proofs.Steps.{Onward, onward_none, more, halt, all_made, rest_made, err_is_not_ok}

-- Faults

-- a halt as the fault of a plan
pub fault_of_halt : (h : Halt) (o : Option ℕ) (e : PlanFault) → e ≡ NoRoom h.fault h.call h.round o → (s : Stop) → OfHalt o h s → OfFault e s
fault_of_halt h o e same s of = subst (λ f. OfFault f s) (sym same) of

module _ {start : Meaning} {all : List Step} {m : Meaning} where
  -- the exit of a `?` where no move is worked on
  pub made_broken : {X : Type 0} (xs ys : List Step) (n : Meaning) (h : Halt) (a : Result X PlanFault) → IsErrAnd a (λ y. y ≡ NoRoom h.fault h.call h.round None) → Onward start all m (xs ++ ys) →
      Ended {X = Unit {0}} (OfHalt None) m xs (Err h) n → Made start all a n
  made_broken xs ys n h (Ok x) b w k = absurd b
  made_broken xs ys n h (Err y) b w k = halt (Unit {0}) (OfHalt None) OfFault xs ys n h y (fault_of_halt h None y b) w k

  -- the exit of a `?` after a fault of the same type
  pub made_passed : {X : Type 0} (xs ys : List Step) (n : Meaning) (e : PlanFault) (a : Result X PlanFault) → IsErrAnd a (λ y. y ≡ e) → Onward start all m (xs ++ ys) → Made {X = Unit {0}} m xs (Err e) n → Made start all a n
  made_passed xs ys n e (Ok x) b w k = absurd b
  made_passed xs ys n e (Err y) b w k = halt (Unit {0}) OfFault OfFault xs ys n e y (λ s of. subst (λ f. OfFault f s) (sym b) of) w k

  -- the calls of the next slot
  pub next_slot : (r : ℕ) (xs : List (Option Move)) (i : ℕ) (x : Option Move) → i < length xs → x ≡ get_or xs i x → Onward start all m (by_moves r i (map slot_of (drop i xs))) →
      Onward start all m (marked r (Some i) (of_slot (slot_of x)) ++ by_moves r (i + 1) (map slot_of (drop (i + 1) xs)))
  next_slot r xs i x h is w =
      subst (λ y. Onward start all m (by_moves r i (map slot_of (y ∷ drop (i + 1) xs)))) (sym is)
      (subst (λ ys. Onward start all m (by_moves r i (map slot_of ys))) (drop_more xs i x h) w)

  pub last_slot : (r : ℕ) (xs : List (Option Move)) (i : ℕ) → length xs ≤ i → Onward start all m (by_moves r i (map slot_of (drop i xs))) → Onward start all m []
  last_slot r xs i h w = subst (λ ys. Onward start all m (by_moves r i (map slot_of ys))) (drop_all i xs h) w

module _ {S : Type 0} {meaning : S → Meaning} {a b : Round S} where
  -- calls while the move i was worked on, with its number in a refusal
  pub named : {i : ℕ} {cs : List Call} {r : Result (Unit {0}) Halt} {q : Result (Unit {0}) PlanFault} {P : Halt → PlanFault → Type 0} → ((h : Halt) (e : PlanFault) → P h e → e ≡ NoRoom h.fault h.call h.round (Some i)) →
      MatchResult r (λ x. q ≡ Ok x) (λ h. IsErrAnd q (P h)) → Took meaning a cs r b → Stepped meaning a (marked a.number (Some i) cs) q b
  named {i} {cs} {r} {q} {P} says cases t = record { made = go r q cases t.ended; number = t.number; shelf = t.shelf }
    where
      go : (r : Result (Unit {0}) Halt) (q : Result (Unit {0}) PlanFault) → MatchResult r (λ x. q ≡ Ok x) (λ h. IsErrAnd q (P h)) → Hung (meaning a.shelf.now) a.number cs r (meaning b.shelf.now) →
          Made (meaning a.shelf.now) (marked a.number (Some i) cs) q (meaning b.shelf.now)
      go (Ok x) (Ok y) cases h = h (Some i)
      go (Ok x) (Err e) cases h = absurd (err_is_not_ok _ _ cases)
      go (Err h) (Ok y) cases k = absurd cases
      go (Err h) (Err e) cases k = let w = k (Some i) in (w.0, fault_of_halt h (Some i) e (says h e cases) w.0 w.1, w.2, w.3)

  -- calls between moves that are all accepted, and more steps of the same round
  pub took_stepped : {xs : List Call} (steps : ℕ → List Step) {r : Result (Unit {0}) PlanFault} {n : Round S} → Took meaning a xs (Ok tt) b → Stepped meaning b (steps b.number) r n → Stepped meaning a (marked a.number None xs ++ steps a.number) r n
  took_stepped {xs} steps {r} {n} t h =
      let ys = steps a.number in
      let made = subst (λ k. Made (meaning b.shelf.now) (steps k) r (meaning n.shelf.now)) t.number h.made in
      record {
        made = rest_made OfFault ys (meaning n.shelf.now) r (more {X = Unit {0}} (OfHalt None) (marked a.number None xs) ys (meaning b.shelf.now) tt (onward_none (meaning a.shelf.now) (marked a.number None xs ++ ys)) (t.ended None)) made;
        number = h.number ∙ t.number;
        shelf = h.shelf ∙ t.shelf;
      }

  -- calls between moves of which one is refused, and more steps: the exit of a `?`
  pub took_unstepped : {xs : List Call} (ys : List Step) {h : Halt} (r : Result (Unit {0}) PlanFault) → IsErrAnd r (λ y. y ≡ NoRoom h.fault h.call h.round None) → Took meaning a xs (Err h) b → Stepped meaning a (marked a.number None xs ++ ys) r b
  took_unstepped {xs} ys {h} r is t =
      record {
        made = made_broken (marked a.number None xs) ys (meaning b.shelf.now) h r is (onward_none (meaning a.shelf.now) (marked a.number None xs ++ ys)) (t.ended None);
        number = t.number;
        shelf = t.shelf;
      }

-- the moves of the first i slots were tried
pub record Lowering {S : Type 0} (meaning : S → Meaning) (start : Round S) (slots : List (Option Move)) (now : Round S) (i : ℕ) : Type 0 where
  pub onward : Onward (meaning start.shelf.now) (by_moves start.number 0 (map slot_of slots)) (meaning now.shelf.now) (by_moves start.number i (map slot_of (drop i slots)))
  pub number : now.number ≡ start.number
  pub shelf : now.shelf.ghost_name ≡ start.shelf.ghost_name

module _ {S : Type 0} {meaning : S → Meaning} {start now : Round S} {slots : List (Option Move)} {i : ℕ} (w : Lowering meaning start slots now i) where
  -- the steps of the next of them
  abbrev by_next : Option Move → List Step
  by_next x = marked now.number (Some i) (of_slot (slot_of x))

  abbrev by_others : List Step
  by_others = by_moves start.number (i + 1) (map slot_of (drop (i + 1) slots))

  module _ (x : Option Move) (h : i < length slots) (is : x ≡ get_or slots i x) where
    left : Onward (meaning start.shelf.now) (by_moves start.number 0 (map slot_of slots)) (meaning now.shelf.now) (by_next x ++ by_others)
    left = rw w.number (next_slot start.number slots i x h is w.onward)

    -- they were accepted
    pub lowering_next : {next : Round S} → Stepped meaning now (by_next x) (Ok tt) next → Lowering meaning start slots next (i + 1)
    lowering_next {next} t = record { onward = more {X = Unit {0}} OfFault (by_next x) by_others (meaning next.shelf.now) tt left t.made; number = t.number ∙ w.number; shelf = t.shelf ∙ w.shelf }

    -- one of them was refused: the exit of a `?`
    pub lowering_broken : {next : Round S} {e : PlanFault} (r : Result (Unit {0}) PlanFault) → IsErrAnd r (λ y. y ≡ e) → Stepped meaning now (by_next x) (Err e) next → Stepped meaning start (by_moves start.number 0 (map slot_of slots)) r next
    lowering_broken {next} {e} r b t = record { made = made_passed (by_next x) by_others (meaning next.shelf.now) e r b left t.made; number = t.number ∙ w.number; shelf = t.shelf ∙ w.shelf }

  pub lowering_all : length slots ≤ i → Stepped meaning start (by_moves start.number 0 (map slot_of slots)) (Ok tt) now
  lowering_all h = record { made = all_made (last_slot start.number slots i h w.onward); number = w.number; shelf = w.shelf }
