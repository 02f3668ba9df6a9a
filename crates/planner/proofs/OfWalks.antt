-- The walk along a plan, as the code takes it. Assumes nothing.
use Rattle.std.proofs.Common.{◌≡◌, ℕ, zero, suc, ◌+◌, ◌<◌, ◌≤◌, ◌⊎◌, true, List, [], ◌∷◌, ◌++◌, map, length, get_or, set, Some, None, Option, sym, refl, ap, ◌∙◌, subst, inl, inr, ⊎_elim, arith}
use Rattle.std.proofs.Math.Logic.{∥∥₁_elim}
use mathlib.Core.HLevel.{⊥_prop}
use Rattle.std.specs.List.{AllByRecursion}
use Rattle.std.specs.Fn.{Called}
use Rattle.std.specs.Option.{MatchOption, is_some}
use Rattle.std.proofs.lemmas.Option.{none-some}
use Rattle.std.proofs.lemmas.List.{append_assoc, append-nil}
use Rattle.lists.specs.Shorts.{listed}
use Rattle.model.specs.Scenes.{SceneOf}
use Rattle.model.specs.Masks.{wanted}
use Rattle.model.specs.Moves as model
use Rattle.model.specs.Contents.{Contents}
use Rattle.model.specs.Calls.{Lawful}
use Rattle.model.specs.Shelves.{Meaning}
use Rattle.theory.specs.Actions.{Action, numbered}
use Rattle.theory.specs.Iteration.{through}
use Rattle.theory.specs.Tables.{action_in, table_of}
use Rattle.theory.specs.Walks.{Greedy, walk}
use Rattle.theory.specs.Wellformed.{LawfulSlot}
use Rattle.theory.proofs.Best.{walks_best}
use Rattle.theory.proofs.Greedy.{walk_found}
use Rattle.theory.proofs.Tabling.{table_numbered, tables_lawful}
use Rattle.theory.proofs.Told.{contents_told}
use Rattle.rounds.proofs.Leaving.{seen_length}
use Rattle.moves.specs.declared.entry.Move.{Move}
use Rattle.moves.specs.Views.{slot_of}
use Rattle.planner.specs.declared.point.Point.{Point}
use Rattle.planner.specs.declared.point.Stride.{Stride}
use Rattle.planner.specs.Walking.{first_peg, Ready, Stands, Leads, Led, Strode, Strides, written, Taken, Walked}
use Rattle.planner.proofs.Finding.{FirstBelow, FindsFirst, first_below}
use denote.Param.Members.{Mut}

-- The slots, as the code reads them

at_place : (xs : List (Option Move)) (i : ℕ) (x : Option Move) → i < length xs → x ≡ get_or xs i x → get_or (map slot_of xs) i None ≡ slot_of x
at_place [] i x h e = absurd (omega arith)
at_place (y ∷ ys) zero x h e = ap slot_of (sym e)
at_place (y ∷ ys) (suc i) x h e = at_place ys i x (omega arith) e

past_all : (ms : List (Option model.Move)) (i : ℕ) → length ms ≤ i → get_or ms i None ≡ None
past_all [] i h = refl
past_all (m ∷ ms) zero h = absurd (omega arith)
past_all (m ∷ ms) (suc i) h = past_all ms i (omega arith)

all_at : {X : Type 0} (P : X → Type 0) (xs : List X) (i : ℕ) (d : X) → i < length xs → AllByRecursion P xs → P (get_or xs i d)
all_at P [] i d h all = absurd (omega arith)
all_at P (x ∷ xs) zero d h all = all.0
all_at P (x ∷ xs) (suc i) d h all = all_at P xs i d (omega arith) all.1

module _ (c : Contents) (xs : List (Option Move)) (seen : map slot_of xs ≡ c.slots) where
  pub numbered_seen : (i : ℕ) (x o : Option Move) → i < length xs → x ≡ get_or xs i x → o ≡ x → numbered (table_of c.slots) i ≡ action_in (slot_of o)
  numbered_seen i x o h e same =
      table_numbered c.slots i ∙ ap (λ ms. action_in (get_or ms i None)) (sym seen) ∙ ap action_in (at_place xs i x h e)
      ∙ ap (λ y. action_in (slot_of y)) (sym same)

  pub lawful_seen : Lawful c → (i : ℕ) (x o : Option Move) → length xs ≡ length c.slots → i < length xs → x ≡ get_or xs i x → o ≡ x → LawfulSlot c.settings (slot_of o)
  lawful_seen law i x o long h e same =
      subst (LawfulSlot c.settings) (ap (λ ms. get_or ms i None) (sym seen) ∙ at_place xs i x h e ∙ ap slot_of (sym same))
      (all_at (LawfulSlot c.settings) c.slots i None (omega arith) (contents_told c law).each_slot)

-- The next move

module _ (c : Contents) (m : Meaning) (p : Point) where
  -- what the move of a number was asked, by its slot
  pub strode_none : (n : ℕ) (o : Option Action) → numbered (table_of c.slots) n ≡ o → Led c m p o None → Strode c m p n None
  strode_none n o e led h = led (ap (λ a. through a (first_peg c m) (listed p.scene)) (sym e) ∙ h)

  pub strode_some : (n : ℕ) (o : Option Action) (q : Point) → numbered (table_of c.slots) n ≡ o → Led c m p o (Some q) → Strode c m p n (Some (record { number = n; end = q }))
  strode_some n o q e led = (refl, subst (λ a. Leads c m p a q) (sym e) led)

  pub strode_vacant : (n : ℕ) → numbered (table_of c.slots) n ≡ None → Strode c m p n None
  strode_vacant n e = strode_none n None e (λ h. none-some _ h)

  -- no move of a number below n keeps the time
  abbrev pub NoneBelow : ℕ → Type 0
  NoneBelow n = (j : ℕ) → j < n → Strode c m p j None

  none_at_all : (n : ℕ) → length c.slots ≤ n → NoneBelow n → (j : ℕ) → through (numbered (table_of c.slots) j) (first_peg c m) (listed p.scene) ≡ Some p.left → ⊥
  none_at_all n le below j h = go (split j n)
    where
      split : (i k : ℕ) → (i < k) ⊎ (k ≤ i)
      split i zero = inr (omega arith)
      split zero (suc k) = inl (omega arith)
      split (suc i) (suc k) = ⊎_elim (λ l. inl (omega arith)) (λ l. inr (omega arith)) (split i k)

      go : (j < n) ⊎ (n ≤ j) → ⊥
      go (inl l) = below j l h
      go (inr l) =
          none-some p.left (sym (ap (λ a. through a (first_peg c m) (listed p.scene)) (table_numbered c.slots j ∙ ap action_in (past_all c.slots j (omega arith)))) ∙ h)

  -- from a scene with a time above 0 some move keeps it
  pub some_move : Ready c m → Stands c m p → 0 < p.left → (n : ℕ) → length c.slots ≤ n → NoneBelow n → ⊥
  some_move ready stands far n le below =
      let acts = table_of c.slots in
      let v = first_peg c m in
      go (walk acts v p.left (listed p.scene))
      (walk_found c.settings acts (wanted c.masks) (tables_lawful c ready.lawful) v ready.right (listed p.scene) stands.within p.left stands.timed)
    where
      zero_left : Some p.left ≡ Some 0 → ⊥
      zero_left e = let z : p.left ≡ 0 = cc in absurd (omega arith)

      go : (is : List ℕ) → Greedy (table_of c.slots) (first_peg c m) is (listed p.scene) → ⊥
      go [] g = zero_left (sym stands.timed ∙ g)
      go (i ∷ is) g = none_at_all n le below i (ap (λ a. through a (first_peg c m) (listed p.scene)) g.1 ∙ g.2 ∙ stands.timed)

  -- so the first number that answers is the next move's
  next_is : ∥ Ready c m ∥₁ → Stands c m p → 0 < p.left → (n : ℕ) → length c.slots ≤ n → (r : Option Stride) → FirstBelow (Strode c m p) n r → MatchOption r ⊥ (Strides c m p)
  next_is ready stands far n le None below = ∥∥₁_elim ready ⊥_prop (λ k. some_move k stands far n le below)
  next_is ready stands far n le (Some x) (i, (number, leads), below) =
      record { leads = subst (λ j. Leads c m p (numbered (table_of c.slots) j) x.end) (sym number) leads; smallest = λ j lt. below j (omega (arith, number)) }

  pub next_found : ∥ Ready c m ∥₁ → Stands c m p → 0 < p.left → (xs : List (Option Move)) → map slot_of xs ≡ c.slots
      → {F : Type 0} {g : Mut F (ℕ × Unit {0}) (Option Stride)} {f : F} → ((n : ℕ) (o : Option Stride) (q : F) → Called g f (n, tt) o q → (q ≡ f) × Strode c m p n o)
      → (r : Option Stride) → FindsFirst g f (length xs) r → MatchOption r ⊥ (Strides c m p)
  next_found ready stands far xs seen gives r found =
      next_is ready stands far (length xs) (omega (arith, seen_length slot_of xs c.slots seen)) r (first_below _ _ (Strode c m p) gives (length xs) r found)

  pub one_is : (r : Option Stride) → MatchOption r ⊥ (Strides c m p) → is_some r ≡ true
  one_is None h = absurd h
  one_is (Some x) h = refl

-- The whole walk

pub written_more : (ds old : List ℕ) (x : ℕ) → set (written ds old) (length ds) x ≡ written (ds ++ (x ∷ [])) old
written_more [] [] x = refl
written_more [] (b ∷ bs) x = refl
written_more (d ∷ ds) [] x = refl
written_more (d ∷ ds) (b ∷ bs) x = ap (λ ys. d ∷ ys) (written_more ds bs x)

pub length_more : (ds : List ℕ) (x : ℕ) → length (ds ++ (x ∷ [])) ≡ length ds + 1
length_more [] x = refl
length_more (d ∷ ds) x = let z = length_more ds x in let y : suc (length ds + 1) ≡ suc (length ds) + 1 = omega arith in ap suc z ∙ y

-- some moves of the walk are taken and written
pub record UnderWay (c : Contents) (m : Meaning) (time : ℕ) (old : List ℕ) (p : Point) (moves : ℕ) (sheet : List ℕ) : Type 0 where
  pub taken : List ℕ
  pub many : moves ≡ length taken
  pub stands : Stands c m p
  pub greedy : (is : List ℕ) → Greedy (table_of c.slots) (first_peg c m) is (listed p.scene) → Greedy (table_of c.slots) (first_peg c m) (taken ++ is) c.scene
  pub filled : sheet ≡ written taken old
  pub bound : moves + p.left ≤ time

module _ (c : Contents) (m : Meaning) (law : Lawful c) (time : ℕ) (old : List ℕ) where
  pub way_begun : (p : Point) → listed p.scene ≡ c.scene → p.left ≡ time → first_peg c m c.scene ≡ Some time → UnderWay c m time old p 0 old
  way_begun p here left timed =
      record {
        taken = [];
        many = refl;
        stands = record { within = subst (SceneOf c.settings) (sym here) (contents_told c law).present; timed = ap (first_peg c m) here ∙ timed ∙ ap Some (sym left) };
        greedy = λ is g. subst (Greedy (table_of c.slots) (first_peg c m) is) here g;
        filled = refl;
        bound = omega arith;
      }

  pub way_on : (p : Point) (moves : ℕ) (sheet new : List ℕ) (x : Stride) → UnderWay c m time old p moves sheet → Strides c m p x → new ≡ set sheet moves x.number → UnderWay c m time old x.end (moves + 1) new
  way_on p moves sheet new x w st e =
      let l = st.leads in
      let acts = table_of c.slots in
      let v = first_peg c m in
      let s = listed p.scene in
      record {
        taken = w.taken ++ (x.number ∷ []);
        many = ap (λ k. k + 1) w.many ∙ sym (length_more w.taken x.number);
        stands = l.stands;
        greedy = λ is g. subst (λ js. Greedy acts v js c.scene) (sym (append_assoc w.taken (x.number ∷ []) is))
            (w.greedy (x.number ∷ is) (
              l.action,
              l.there,
              ap (λ a. through a v s) (sym l.there) ∙ l.keeps ∙ sym w.stands.timed,
              (λ j lt h. st.smallest j lt (h ∙ w.stands.timed)),
              subst (Greedy acts v is) l.next g,
            ));
        filled = e ∙ ap (λ ys. set ys moves x.number) w.filled ∙ ap (λ k. set (written w.taken old) k x.number) w.many ∙ written_more w.taken old x.number;
        bound = omega (arith, l.less, w.bound);
      }

  pub way_ended : (p : Point) (moves : ℕ) (sheet : List ℕ) → UnderWay c m time old p moves sheet → p.left ≡ 0 → Taken c m old moves sheet
  way_ended p moves sheet w z =
      record {
        moves = w.taken;
        greedy = subst (λ js. Greedy (table_of c.slots) (first_peg c m) js c.scene) (append-nil w.taken) (w.greedy [] (w.stands.timed ∙ ap Some z));
        counted = w.many;
        filled = w.filled;
      }

-- by the least times that walk is the best way
pub walked_best : (c : Contents) (m : Meaning) → Ready c m → (time : ℕ) → first_peg c m c.scene ≡ Some time → (old : List ℕ) (n : ℕ) (new : List ℕ) → Taken c m old n new → Walked c time old n new
walked_best c m ready time timed old n new w =
    record {
      moves = w.moves;
      best = walks_best c ready.lawful (first_peg c m) ready.right time timed w.moves w.greedy;
      counted = w.counted;
      filled = w.filled;
    }
