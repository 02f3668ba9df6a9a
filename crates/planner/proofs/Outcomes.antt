-- What is found, as a whole. Assumes nothing.
use Rattle.std.proofs.Common.{◌≡◌, ℕ, ◌≤◌, Bool, true, false, not, eqb, List, [], ◌∷◌, ◌++◌, length, drop, Some, None, Ok, Err, Option, Result, sym, refl, ap, ◌∙◌, subst, inl, inr, arith}
use Rattle.std.specs.Bool.{Decides}
use Rattle.std.specs.Cmp.Lexicographic.{pointwise}
use Rattle.std.proofs.lemmas.Bool.Decides.{Decides-eqb}
use Rattle.std.proofs.lemmas.Slice.Eq.{slice_eq-Decides}
use Rattle.model.specs.Contents.{Contents}
use Rattle.model.specs.Shelves.{Meaning}
use Rattle.theory.specs.Alike.{Alike}
use Rattle.theory.specs.Ways.{Best}
use Rattle.theory.proofs.Alikes.{best_alike}
use Rattle.rule.specs.Steps.{Step}
use Rattle.rule.specs.Running.{Fits, First}
use Rattle.rule.specs.Rule.{count, rule}
use Rattle.shelf.specs.declared.fault.ShelfFault.{ShelfFault}
use Rattle.shelf.specs.Faults as shelf
use Rattle.steps.specs.declared.hanging.Hanging.{Hanging}
use Rattle.planner.specs.declared.answer.Plan.{Plan}
use Rattle.planner.specs.declared.answer.Plan.TheVariants as plan
use Rattle.steps.specs.declared.fault.PlanFault.{PlanFault}
use Rattle.steps.specs.declared.fault.PlanFault.TheVariants.{ShapesDiffer, NoRoom, SheetShort}
use Rattle.steps.specs.Faults.{step_of}
use Rattle.planner.specs.Walking.{written, Walked}
use Rattle.planner.specs.Plans.{cleared, Filled, ShortFor, Fills, Found, Planned}

-- lists that `!=` does not tell apart are the same
pub same_by_ne : (xs ys : List ℕ) (b : Bool) → b ≡ not (pointwise eqb xs ys) → b ≡ false → xs ≡ ys
same_by_ne xs ys b e f = go (pointwise eqb xs ys) (slice_eq-Decides Decides-eqb xs ys _ refl) (sym f ∙ e)
  where
    go : (r : Bool) → Decides r (xs ≡ ys) → false ≡ not r → xs ≡ ys
    go true d h = d.0 refl
    go false d h = let z : ◌≡◌ {A = ℕ} 0 1 = cc in absurd (omega arith)

pub alike_self : (c : Contents) → Alike c c
alike_self c = record { moves = λ k. refl; same_scene = refl; same_masks = refl }

-- the sheet of a way that it has room for
written_fits : (is old : List ℕ) → length is ≤ length old → written is old ≡ is ++ drop (length is) old
written_fits [] old h = refl
written_fits (i ∷ is) [] h = absurd (omega arith)
written_fits (i ∷ is) (b ∷ bs) h = ap (λ ys. i ∷ ys) (written_fits is bs (omega arith))

-- a way that was counted first and then written
pub counted_first : (c : Contents) (t n k : ℕ) (none none' old new : List ℕ) → Walked c t none n none' → Walked c t old k new → n ≤ length old → Filled c n t old new
counted_first c t n k none none' old new first then le =
    let same : first.moves ≡ then.moves = (best_alike c c (alike_self c) first.moves then.moves t t first.best then.best).0 in
    let many : n ≡ length then.moves = first.counted ∙ ap length same in
    record {
      moves = then.moves;
      best = then.best;
      many = many;
      fits = le;
      sheet = then.filled ∙ written_fits then.moves old (omega arith) ∙ ap (λ i. then.moves ++ drop i old) (sym many);
    }

-- the answer of the best way is what is found
pub fills_found : (c : Contents) (m : Meaning) (t r : ℕ) (old new : List ℕ) (a : Result Plan PlanFault) → Fits m (rule c) → r ≡ count c → Fills c t r old a new → Found c m old a new
fills_found c m t r old new (Ok (plan.Way n u s)) fits e h = (fits, h.1 ∙ e, subst (λ x. Filled c n x old new) (sym h.0) h.2)
fills_found c m t r old new (Ok (plan.NoWay s)) fits e h = absurd h
fills_found c m t r old new (Err ShapesDiffer) fits e h = h
fills_found c m t r old new (Err (NoRoom f k x o)) fits e h = absurd h
fills_found c m t r old new (Err (SheetShort n)) fits e h = (fits, h.0, h.1)

-- no step overfills, or one does first
fits_none : (m : Meaning) (xs : List Step) → Fits m xs → ((x : Step) × First m xs x) → ⊥
fits_none m xs fits k =
    let f = k.1 in
    let z : ◌≡◌ {A = Bool} true false = sym f.overfilling ∙ fits f.done f.left k.0 f.split in
    let y : ◌≡◌ {A = ℕ} 0 1 = cc in
    absurd (omega arith)

-- one length of all best ways
one_length : (c : Contents) (is js : List ℕ) (t u : ℕ) → Best c is t → Best c js u → length is ≡ length js
one_length c is js t u a b = ap length (best_alike c c (alike_self c) is js t u a b).0

numbers_clash : (a b : ℕ) → (a ≡ b → ⊥) → Some a ≡ Some b → ⊥
numbers_clash a b f e = f (cc)

never_number : (a : ℕ) → None ≡ Some a → ⊥
never_number a e = let z : ◌≡◌ {A = ℕ} 0 1 = cc in absurd (omega arith)

short_is_not_17 : ◌≡◌ {A = Option ℕ} (Some 19) (Some 17) → ⊥
short_is_not_17 e = let z : ◌≡◌ {A = ℕ} 19 17 = cc in absurd (omega arith)

short_is_not_18 : ◌≡◌ {A = Option ℕ} (Some 19) (Some 18) → ⊥
short_is_not_18 e = let z : ◌≡◌ {A = ℕ} 19 18 = cc in absurd (omega arith)

never_none : (a : ℕ) → Some a ≡ None → ⊥
never_none a e = never_number a (sym e)

ok_is_not : {P E : Type 0} (p : P) (e : E) → Ok p ≡ Err e → ⊥
ok_is_not p e h = let z : ◌≡◌ {A = ℕ} 0 1 = cc in absurd (omega arith)

way_is_not : (k t r s : ℕ) → ◌≡◌ {A = Result Plan PlanFault} (Ok (plan.Way k t r)) (Ok (plan.NoWay s)) → ⊥
way_is_not k t r s h = let z : ◌≡◌ {A = ℕ} 0 1 = cc in absurd (omega arith)

same_way : (k t r k' t' r' : ℕ) → ◌≡◌ {A = Result Plan PlanFault} (Ok (plan.Way k t r)) (Ok (plan.Way k' t' r')) → (k ≡ k') × (t ≡ t') × (r ≡ r')
same_way k t r k' t' r' h = (cc, cc, cc)

same_rounds : (r s : ℕ) → ◌≡◌ {A = Result Plan PlanFault} (Ok (plan.NoWay r)) (Ok (plan.NoWay s)) → r ≡ s
same_rounds r s h = cc

same_needed : (k n : ℕ) → ◌≡◌ {A = Result Plan PlanFault} (Err (SheetShort k)) (Err (SheetShort n)) → k ≡ n
same_needed k n h = cc

room_is_not : (f : ShelfFault) (h : Hanging) (k : ℕ) (o : Option ℕ) (n : ℕ) → ◌≡◌ {A = Result Plan PlanFault} (Err (NoRoom f h k o)) (Err (SheetShort n)) → ⊥
room_is_not f h k o n e = let z : ◌≡◌ {A = ℕ} 0 1 = cc in absurd (omega arith)

module _ (c : Contents) (m : Meaning) (old : List ℕ) (same : m.shape ≡ c.settings) where
  way_planned : (k t r : ℕ) (new : List ℕ) → Found c (cleared m) old (Ok (plan.Way k t r)) new → Planned c m old (Ok (plan.Way k t r)) (cleared m) new
  way_planned k t r new h =
      let w = h.2 in
      record {
        way = λ k' t' r' e. let z = same_way k t r k' t' r' e in
            (subst (λ i. Filled c i t' old new) z.0 (subst (λ u. Filled c k u old new) z.1 w), sym z.2 ∙ h.1);
        no_way = λ _. ((λ x. absurd (way_is_not k t r x.0 x.1)), λ none. absurd (none w.moves t w.best.way));
        rounds = λ s e. absurd (way_is_not k t r s e);
        shapes = ((λ e. absurd (never_number 17 e)), λ differ. absurd (differ same));
        room = ((λ e. absurd (never_number 18 e)), λ x. absurd (fits_none (cleared m) (rule c) h.0 x.1));
        first = λ f g i o e. absurd (ok_is_not _ _ e);
        sheet = ((λ e. absurd (never_number 19 e)), λ x. let s = x.2.1 in absurd (omega (arith, s.short, s.many, w.many, w.fits, one_length c s.moves w.moves s.time t s.best w.best)));
        needed = λ i e. absurd (ok_is_not _ _ e);
        others = λ i e. absurd (never_number i e);
        pegs = λ _. refl;
        untouched = λ e. absurd (never_number 17 e);
        kept = λ f. absurd (f k t r refl);
      }

  none_planned : (r : ℕ) (new : List ℕ) → Found c (cleared m) old (Ok (plan.NoWay r)) new → Planned c m old (Ok (plan.NoWay r)) (cleared m) new
  none_planned r new h =
      record {
        way = λ k t s e. absurd (way_is_not k t s r (sym e));
        no_way = λ _. ((λ _. h.2), λ _. (r, refl));
        rounds = λ s e. sym (same_rounds r s e) ∙ h.1;
        shapes = ((λ e. absurd (never_number 17 e)), λ differ. absurd (differ same));
        room = ((λ e. absurd (never_number 18 e)), λ x. absurd (fits_none (cleared m) (rule c) h.0 x.1));
        first = λ f g i o e. absurd (ok_is_not _ _ e);
        sheet = ((λ e. absurd (never_number 19 e)), λ x. let s = x.2.1 in absurd (h.2 s.moves s.time s.best.way));
        needed = λ i e. absurd (ok_is_not _ _ e);
        others = λ i e. absurd (never_number i e);
        pegs = λ _. refl;
        untouched = λ e. absurd (never_number 17 e);
        kept = λ _. h.3;
      }

  room_planned : (f : ShelfFault) (g : Hanging) (k : ℕ) (o : Option ℕ) (new : List ℕ) → Found c (cleared m) old (Err (NoRoom f g k o)) new → Planned c m old (Err (NoRoom f g k o)) (cleared m) new
  room_planned f g k o new h =
      let not_17 : Some (shelf.number f) ≡ Some 17 → ⊥ = numbers_clash (shelf.number f) 17 (λ e. omega (arith, e, h.0)) in
      record {
        way = λ i t s e. absurd (ok_is_not _ _ (sym e));
        no_way = λ e. absurd (never_none (shelf.number f) e);
        rounds = λ s e. absurd (ok_is_not _ _ (sym e));
        shapes = ((λ e. absurd (not_17 e)), λ differ. absurd (differ same));
        room = ((λ _. (same, (step_of g k o, h.1))), λ _. ap Some h.0);
        first = λ f' g' k' o' e. subst (first_of new) e h';
        sheet = ((λ e. absurd (numbers_clash (shelf.number f) 19 (λ z. omega (arith, z, h.0)) e)), λ x. absurd (fits_none (cleared m) (rule c) x.1 (step_of g k o, h.1)));
        needed = λ i e. absurd (room_is_not f g k o i e);
        others = λ i e. inr (inl (sym (number_is (shelf.number f) i e) ∙ h.0));
        pegs = λ _. refl;
        untouched = λ e. absurd (not_17 e);
        kept = λ _. h.2;
      }
    where
      number_is : (a b : ℕ) → Some a ≡ Some b → a ≡ b
      number_is a b e = cc

      h' : (shelf.number f ≡ 18) × First (cleared m) (rule c) (step_of g k o)
      h' = (h.0, h.1)

      first_of : List ℕ → Result Plan PlanFault → Type 0
      first_of new (Ok p) = Unit {0}
      first_of new (Err ShapesDiffer) = Unit {0}
      first_of new (Err (NoRoom f k x o)) = (shelf.number f ≡ 18) × First (cleared m) (rule c) (step_of k x o)
      first_of new (Err (SheetShort n)) = Unit {0}

  short_planned : (n : ℕ) (new : List ℕ) → Found c (cleared m) old (Err (SheetShort n)) new → Planned c m old (Err (SheetShort n)) (cleared m) new
  short_planned n new h =
      record {
        way = λ i t s e. absurd (ok_is_not _ _ (sym e));
        no_way = λ e. absurd (never_none 19 e);
        rounds = λ s e. absurd (ok_is_not _ _ (sym e));
        shapes = ((λ e. absurd (short_is_not_17 e)), λ differ. absurd (differ same));
        room = ((λ e. absurd (short_is_not_18 e)), λ x. absurd (fits_none (cleared m) (rule c) h.0 x.1));
        first = λ f g k o e. absurd (room_is_not f g k o n (sym e));
        sheet = ((λ _. (same, h.0, (n, h.1))), λ _. refl);
        needed = λ k e. subst (λ i. ShortFor c i old) (sym (same_needed k n (sym e))) h.1;
        others = λ i e. inr (inr (sym (number_is 19 i e)));
        pegs = λ _. refl;
        untouched = λ e. absurd (short_is_not_17 e);
        kept = λ _. h.2;
      }
    where
      number_is : (a b : ℕ) → Some a ≡ Some b → a ≡ b
      number_is a b e = cc

  -- with a shelf of the same shape
  pub planned : (answer : Result Plan PlanFault) (n : Meaning) (new : List ℕ) → n ≡ cleared m → Found c (cleared m) old answer new → Planned c m old answer n new
  planned (Ok (plan.Way k t r)) n new e h = subst (λ j. Planned c m old (Ok (plan.Way k t r)) j new) (sym e) (way_planned k t r new h)
  planned (Ok (plan.NoWay r)) n new e h = subst (λ j. Planned c m old (Ok (plan.NoWay r)) j new) (sym e) (none_planned r new h)
  planned (Err ShapesDiffer) n new e h = absurd h
  planned (Err (NoRoom f g k o)) n new e h = subst (λ j. Planned c m old (Err (NoRoom f g k o)) j new) (sym e) (room_planned f g k o new h)
  planned (Err (SheetShort k)) n new e h = subst (λ j. Planned c m old (Err (SheetShort k)) j new) (sym e) (short_planned k new h)
