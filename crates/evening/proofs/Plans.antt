-- What a plan must answer on a shelf with room, where the best way is known. Assumes nothing.
use Rattle.std.proofs.Common.{◌≡◌, ℕ, ◌*◌, ◌<◌, ◌≤◌, List, [], ◌++◌, length, drop, Ok, Err, Result, sym, refl, ap, ◌∙◌, subst, arith}
use Rattle.std.proofs.lemmas.Bool.{false≢true}
use Rattle.model.specs.Scenes.{Shape}
use Rattle.model.specs.Contents.{Contents}
use Rattle.model.specs.Shelves.{Meaning}
use Rattle.theory.specs.Performing.{Way}
use Rattle.theory.specs.Ways.{Best}
use Rattle.theory.specs.Alike.{Alike}
use Rattle.theory.proofs.Alikes.{alike_back, ways_alike, best_alike}
use Rattle.rule.specs.Running.{Fits}
use Rattle.rule.specs.Rule.{count, rule}
use Rattle.rule.proofs.Counts.{counts_alike}
use Rattle.planner.specs.declared.answer.Plan.{Plan}
use Rattle.planner.specs.declared.answer.Plan.TheVariants as plan
use Rattle.steps.specs.declared.fault.PlanFault.{PlanFault}
use Rattle.steps.specs.declared.fault.PlanFault.TheVariants.{ShapesDiffer, NoRoom, SheetShort}
use Rattle.steps.specs.Faults.{step_of}
use Rattle.steps.proofs.Steps.{err_is_not_ok}
use Rattle.planner.specs.Plans.{cleared, NoWay, Filled, ShortFor, Planned}
use Rattle.planner.proofs.Outcomes.{alike_self}
use Rattle.evening.specs.Cases.{Plans, PlansAlike}
use Rattle.evening.proofs.Rooms.{many_parts, diagram_fits}

-- What is left to answer

way_is_not : (k t r s : ℕ) → ◌≡◌ {A = Result Plan PlanFault} (Ok (plan.Way k t r)) (Ok (plan.NoWay s)) → ⊥
way_is_not k t r s e = let z : ◌≡◌ {A = ℕ} 0 1 = cc in absurd (omega arith)

-- what a plan of contents c promises of its answer, where neither the shape nor the room stands against it
abbrev Left : Contents → List ℕ → List ℕ → Result Plan PlanFault → Type 0
Left c old new (Ok (plan.Way k u r)) = Filled c k u old new × (r ≡ count c)
Left c old new (Ok (plan.NoWay r)) = NoWay c × (r ≡ count c) × (new ≡ old)
Left c old new (Err ShapesDiffer) = ⊥
Left c old new (Err (NoRoom x g k o)) = ⊥
Left c old new (Err (SheetShort k)) = ShortFor c k old × (new ≡ old)

module _ (c : Contents) (m n : Meaning) (old new : List ℕ) (same : m.shape ≡ c.settings) (fits : Fits (cleared m) (rule c)) where
  left : (answer : Result Plan PlanFault) → Planned c m old answer n new → Left c old new answer
  left (Ok (plan.Way k u r)) p = p.way k u r refl
  left (Ok (plan.NoWay r)) p = ((p.no_way refl).0 (r, refl), p.rounds r refl, p.kept (λ k u s e. way_is_not k u s r (sym e)))
  left (Err ShapesDiffer) p = p.shapes.0 refl same
  left (Err (NoRoom x g k o)) p =
      let f = (p.first x g k o refl).1 in
      false≢true (sym (fits f.done f.left (step_of g k o) f.split) ∙ f.overfilling)
  left (Err (SheetShort k)) p = (p.needed k refl, p.kept (λ i u r. err_is_not_ok _ _))

module _ (c : Contents) (old new : List ℕ) where
  module _ (is : List ℕ) (t : ℕ) (best : Best c is t) where
    one : (js : List ℕ) (u : ℕ) → Best c js u → (is ≡ js) × (t ≡ u)
    one js u other = best_alike c c (alike_self c) is js t u best other

    way : length is ≤ length old → (answer : Result Plan PlanFault) → Left c old new answer → (answer ≡ Ok (plan.Way (length is) t (count c))) × (new ≡ is ++ drop (length is) old)
    way long (Ok (plan.Way k u r)) (w, counted) =
        let z = one w.moves u w.best in
        let timed = z.1 in
        let many : length is ≡ k = ap length z.0 ∙ sym w.many in
        (cc, w.sheet ∙ ap (λ i. w.moves ++ drop i old) (sym many) ∙ ap (λ js. js ++ drop (length is) old) (sym z.0))
    way long (Ok (plan.NoWay r)) h = absurd (h.0 is t best.way)
    way long (Err ShapesDiffer) h = absurd h
    way long (Err (NoRoom x g k o)) h = absurd h
    way long (Err (SheetShort k)) (s, kept) = absurd (omega (arith, s.short, s.many, ap length (one s.moves s.time s.best).0, long))

    short : length old < length is → (answer : Result Plan PlanFault) → Left c old new answer → (answer ≡ Err (SheetShort (length is))) × (new ≡ old)
    short less (Ok (plan.Way k u r)) (w, counted) = absurd (omega (arith, w.fits, w.many, ap length (one w.moves u w.best).0, less))
    short less (Ok (plan.NoWay r)) h = absurd (h.0 is t best.way)
    short less (Err ShapesDiffer) h = absurd h
    short less (Err (NoRoom x g k o)) h = absurd h
    short less (Err (SheetShort k)) (s, kept) = (ap (λ i. Err (SheetShort i)) (s.many ∙ ap length (sym (one s.moves s.time s.best).0)), kept)

  none : NoWay c → (answer : Result Plan PlanFault) → Left c old new answer → (answer ≡ Ok (plan.NoWay (count c))) × (new ≡ old)
  none f (Ok (plan.Way k u r)) (w, counted) = absurd (f w.moves u w.best.way)
  none f (Ok (plan.NoWay r)) (h, counted, kept) = (ap (λ s. Ok (plan.NoWay s)) counted, kept)
  none f (Err ShapesDiffer) h = absurd h
  none f (Err (NoRoom x g k o)) h = absurd h
  none f (Err (SheetShort k)) (s, kept) = absurd (f s.moves s.time s.best.way)

-- The claims

-- so many node slots have room for whatever the rule hangs
abbrev Roomy : Shape → Type 0
Roomy ns = 9 * many_parts ns ≤ 512

plans : (c : Contents) (bytes : ℕ) (said : Result Plan PlanFault) (front : List ℕ) → Roomy c.settings → (
    (old new : List ℕ) (answer : Result Plan PlanFault) → length old ≡ bytes → Left c old new answer → (answer ≡ said) × (new ≡ front ++ drop (length front) old)
    ) → Plans c bytes said front
plans c bytes said front enough told = record {
  always = λ m n old new answer planned same fits long. told old new answer long (left c m n old new same fits answer planned);
  flat = λ done left x e. refl;
  diagram = diagram_fits c.settings 512 enough (rule c);
}

best_of : (c d : Contents) → Alike c d → (is : List ℕ) (t : ℕ) → Best c is t → Best d is t
best_of c d h is t b =
    let back : (js : List ℕ) (u : ℕ) → Way d js u → Way c js u = ways_alike d c (alike_back c d h) in
    record { way = ways_alike c d h is t b.way; least = λ js u w. b.least js u (back js u w); first = λ js w. b.first js (back js t w) }

module _ (c : Contents) (bytes : ℕ) (enough : Roomy c.settings) where
  module _ (t : ℕ) (is : List ℕ) (best : Best c is t) where
    pub way_plans : length is ≤ bytes → PlansAlike c bytes (Ok (plan.Way (length is) t (count c))) is
    way_plans le d alike same = subst (λ r. Plans d bytes (Ok (plan.Way (length is) t r)) is) (sym (counts_alike c d alike same))
        (plans d bytes _ is (subst Roomy same enough) (λ old new answer long. way d old new is t (best_of c d alike is t best) (omega (arith, long)) answer))

    pub short_plans : bytes < length is → PlansAlike c bytes (Err (SheetShort (length is))) []
    short_plans less d alike same =
        plans d bytes _ [] (subst Roomy same enough) (λ old new answer long. short d old new is t (best_of c d alike is t best) (omega (arith, long)) answer)

  pub none_plans : NoWay c → PlansAlike c bytes (Ok (plan.NoWay (count c))) []
  none_plans f d alike same = subst (λ r. Plans d bytes (Ok (plan.NoWay r)) []) (sym (counts_alike c d alike same))
      (plans d bytes _ [] (subst Roomy same enough) (λ old new answer long. none d old new (λ is t w. f is t (ways_alike d c (alike_back c d alike) is t w)) answer))
