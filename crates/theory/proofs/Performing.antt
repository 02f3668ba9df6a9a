-- Runs of accepted performs are runs of the table. Assumes nothing.
use Rattle.std.proofs.Common.{◌≡◌, ℕ, zero, suc, ◌+◌, Bool, true, false, cond, not, ◌||◌, eqb, leb, List, [], ◌∷◌, length, get_or, is_some, Some, None, Ok, Err, Option, Result, sym, refl, ap, ◌∙◌, subst, ⊎_elim, arith}
use Rattle.std.specs.List.{AllByRecursion}
use Rattle.std.proofs.lemmas.List.{get_or_past}
use Rattle.std.proofs.lemmas.Bool.{lt-leb, cases_lt}
use Rattle.model.specs.Limits.{outside, least_byte, most_byte, most_slots}
use Rattle.model.specs.Lists.{some, some_two, repeats}
use Rattle.model.specs.Refusals.{refuse, passes, left_by}
use Rattle.model.specs.Scenes.{Shape, Scene, SceneOf, shape_off}
use Rattle.model.specs.Moves.{Move, all_hold, applied, time}
use Rattle.model.specs.Masks.{wanted}
use Rattle.model.specs.Contents.{Contents, slot, with_scene}
use Rattle.model.specs.Calls.{same_name, in_slot, performs, performed, Lawful}
use Rattle.model.proofs.Ranks.{scene_length, scene_within}
use Rattle.theory.specs.Actions.{Action, Run}
use Rattle.theory.specs.Wellformed.{LawfulSlot, LawfulMove}
use Rattle.theory.specs.Tables.{action_of, action_in, table_of}
use Rattle.theory.specs.Performing.{Way, WaysAreRuns, Performed, PerformsKeep}
use Rattle.theory.proofs.Told.{contents_told}
use Rattle.theory.proofs.Tabling.{table_numbered, applied_scene}

ok_is : (u w : ℕ) → ◌≡◌ {A = Result ℕ ℕ} (Ok u) (Ok w) → u ≡ w
ok_is u w e = cc

err_is_not : (u w : ℕ) → ◌≡◌ {A = Result ℕ ℕ} (Err u) (Ok w) → ⊥
err_is_not u w e = let z : ◌≡◌ {A = ℕ} 0 1 = cc in absurd (omega arith)

-- the slot holds a move whose conditions hold, the answer is its time, and its effects are all that changes
pub record Accepted (c : Contents) (i u : ℕ) : Type 0 where
  pub move : Move
  pub there : slot c i ≡ Some move
  pub may : all_hold c.scene move.conditions ≡ true
  pub answered : u ≡ time move c.scene
  pub leaves : performed c i ≡ with_scene c (applied move.effects c.scene)

-- what perform answers, by whether the conditions hold, and by what the slot holds
abbrev by_unmet : Bool → ℕ → Result ℕ ℕ
by_unmet b t = cond b (Err 12) (Ok t)

abbrev by_slot : Contents → Bool → Option Move → Result ℕ ℕ
by_slot c high o =
    cond high (Err 4) (cond (not (is_some o)) (Err 6) (by_unmet (in_slot (λ m. not (all_hold c.scene m.conditions)) false o) (in_slot (λ m. time m c.scene) 0 o)))

abbrev scene_by : Contents → Option Move → Contents
scene_by c o = with_scene c (in_slot (λ m. applied m.effects c.scene) c.scene o)

-- a move in a slot, whose conditions hold
by_move : (c : Contents) (m : Move) → all_hold c.scene m.conditions ≡ true → by_slot c false (Some m) ≡ Ok (time m c.scene)
by_move c m h = ap (λ b. by_unmet (not b) (time m c.scene)) h

high_none : (c : Contents) (i : ℕ) (m : Move) → slot c i ≡ Some m → leb (length c.slots) i ≡ false
high_none c i m e =
    ⊎_elim
    (λ less. lt-leb (length c.slots) i less)
    (λ past. absurd (none_some (sym (get_or_past c.slots i None past) ∙ e)))
    (cases_lt i (length c.slots))
  where
    none_some : None ≡ Some m → ⊥
    none_some e = let z : ◌≡◌ {A = ℕ} 0 1 = cc in absurd (omega arith)

pub answers_by_move : (c : Contents) (i : ℕ) (m : Move) → slot c i ≡ Some m → all_hold c.scene m.conditions ≡ true → performs c i ≡ Ok (time m c.scene)
answers_by_move c i m e h =
    ap (λ b. by_slot c b (slot c i)) (high_none c i m e) ∙ ap (by_slot c false) e ∙ by_move c m h

pub leaves_by_move : (c : Contents) (i : ℕ) (m : Move) → slot c i ≡ Some m → all_hold c.scene m.conditions ≡ true → performed c i ≡ with_scene c (applied m.effects c.scene)
leaves_by_move c i m e h =
    ap (λ r. left_by r (scene_by c (slot c i)) c) (answers_by_move c i m e h) ∙ ap (scene_by c) e

pub accepted : (c : Contents) (i u : ℕ) → performs c i ≡ Ok u → Accepted c i u
accepted c i u h = go (leb (length c.slots) i) (slot c i) refl h
  where
    held : (m : Move) (b : Bool) → all_hold c.scene m.conditions ≡ b → slot c i ≡ Some m → by_unmet (not b) (time m c.scene) ≡ Ok u → Accepted c i u
    held m false k e h = absurd (err_is_not 12 u h)
    held m true k e h = record { move = m; there = e; may = k; answered = sym (ok_is _ _ h); leaves = leaves_by_move c i m e k }

    go : (b : Bool) (o : Option Move) → slot c i ≡ o → by_slot c b o ≡ Ok u → Accepted c i u
    go true o e h = absurd (err_is_not 4 u h)
    go false None e h = absurd (err_is_not 6 u h)
    go false (Some m) e h = held m (all_hold c.scene m.conditions) refl e h

way_run : (is : List ℕ) (c : Contents) (t : ℕ) → Way c is t → Run (table_of c.slots) (wanted c.masks) is c.scene t
way_run [] c t w = (subst (λ d. wanted d.masks d.scene ≡ true) w.1.1 w.2, w.1.0)
way_run (i ∷ is) c t w =
    let p = w.1 in
    let k = accepted c i p.0 p.1 in
    let m = k.move in
    let rest : Run (table_of c.slots) (wanted c.masks) is (applied m.effects c.scene) p.2 =
    subst (λ d. Run (table_of d.slots) (wanted d.masks) is d.scene p.2) k.leaves (way_run is (performed c i) p.2 (w.0, p.3, w.2)) in
    (action_of m, table_numbered c.slots i ∙ ap action_in k.there, k.may, p.2, rest, p.4 ∙ ap (λ u. u + p.2) k.answered)

-- a slot whose action is there holds a move
pub move_there : (o : Option Move) (a : Action) → action_in o ≡ Some a → (m : Move) × (o ≡ Some m) × (a ≡ action_of m)
move_there None a e = let z : ◌≡◌ {A = ℕ} 0 1 = cc in absurd (omega arith)
move_there (Some m) a e = (m, refl, cc)

run_way : (is : List ℕ) (c : Contents) (t : ℕ) → Run (table_of c.slots) (wanted c.masks) is c.scene t → Way c is t
run_way [] c t r = (c, (r.1, refl), r.0)
run_way (i ∷ is) c t r =
    let k = move_there (slot c i) r.0 (sym (table_numbered c.slots i) ∙ r.1) in
    let m = k.0 in
    let may : all_hold c.scene m.conditions ≡ true = subst (λ (a : Action). a.applicable c.scene ≡ true) k.2 r.2 in
    let rest : Run (table_of c.slots) (wanted c.masks) is (applied m.effects c.scene) r.3 =
    subst (λ (a : Action). Run (table_of c.slots) (wanted c.masks) is (a.next c.scene) r.3) k.2 r.4 in
    let cost : t ≡ time m c.scene + r.3 = subst (λ (a : Action). t ≡ a.cost c.scene + r.3) k.2 r.5 in
    let on : Way (performed c i) is r.3 =
    run_way is (performed c i) r.3 (subst (λ d. Run (table_of d.slots) (wanted d.masks) is d.scene r.3) (sym (leaves_by_move c i m k.1 may)) rest) in
    (on.0, (time m c.scene, answers_by_move c i m k.1 may, r.3, on.1, cost), on.2)

pub ways_are_runs : WaysAreRuns
ways_are_runs c is t = (way_run is c t, run_way is c t)

-- What performs leave

-- the checks of an opening, by how many settings the scene has and whether one is too high
abbrev opens_by : Contents → ℕ → Bool → Bool
opens_by c n b =
    passes (
    refuse 1 (shape_off c.settings || (not (eqb (length c.names) (length c.settings)) || not (eqb n (length c.settings))))
    ∷ refuse 2 (some (some (outside least_byte most_byte)) c.names)
    ∷ refuse 3 (outside 1 most_slots (length c.slots))
    ∷ refuse 8 b
    ∷ refuse 9 (repeats same_name c.names)
    ∷ []
    )

-- contents at another scene of the shape are lawful too
pub lawful_at : (c : Contents) (s : Scene) → Lawful c → SceneOf c.settings s → Lawful (with_scene c s)
lawful_at c s h l =
    let ns = c.settings in
    let old = (contents_told c h).present in
    let long : length c.scene ≡ length s = scene_length ns c.scene old ∙ sym (scene_length ns s l) in
    let low : some_two leb ns c.scene ≡ some_two leb ns s = scene_within ns c.scene old ∙ sym (scene_within ns s l) in
    record {
      opens = subst (λ n. opens_by c n (some_two leb ns s) ≡ true) long (subst (λ b. opens_by c (length c.scene) b ≡ true) low h.opens);
      wants = h.wants;
      moves = h.moves;
    }

slot_lawful : (ns : Shape) (ms : List (Option Move)) (i : ℕ) → AllByRecursion (LawfulSlot ns) ms → LawfulSlot ns (get_or ms i None)
slot_lawful ns [] i h = tt
slot_lawful ns (m ∷ ms) zero h = h.0
slot_lawful ns (m ∷ ms) (suc i) h = slot_lawful ns ms i h.1

-- the move of a slot of lawful contents
pub move_lawful : (c : Contents) (i : ℕ) (m : Move) → Lawful c → slot c i ≡ Some m → LawfulMove c.settings m
move_lawful c i m h e = subst (LawfulSlot c.settings) e (slot_lawful c.settings c.slots i (contents_told c h).each_slot)

pub performed_keeps : (c : Contents) (i u : ℕ) → performs c i ≡ Ok u → Performed c (performed c i)
performed_keeps c i u h =
    let k = accepted c i u h in
    subst (Performed c) (sym k.leaves) (record {
      scene_alone = refl;
      lawful = λ law.
          lawful_at c (applied k.move.effects c.scene) law
          (applied_scene c.settings k.move.effects c.scene (move_lawful c i k.move law k.there).effected.within (contents_told c law).present);
    })

pub performs_keep : PerformsKeep
performs_keep c [] t d p = subst (Performed c) (sym p.1) (record { scene_alone = refl; lawful = λ h. h })
performs_keep c (i ∷ is) t d p =
    let one = performed_keeps c i p.0 p.1 in
    let more = performs_keep (performed c i) is p.2 d p.3 in
    record { scene_alone = more.scene_alone ∙ ap (λ x. with_scene x d.scene) one.scene_alone; lawful = λ h. more.lawful (one.lawful h) }
