-- What steps leave on the pegs. Assumes nothing.
use Rattle.std.proofs.Common.{◌≡◌, ℕ, suc, ◌+◌, ◌≤◌, false, List, [], ◌∷◌, map, length, get_or, set, Some, None, Ok, Err, Result, sym, refl, ap, ◌∙◌, arith}
use lib.ListN.{length-map}
use Rattle.std.proofs.lemmas.List.{append-nil}
use Rattle.std.proofs.lemmas.Bool.Decides.{nat_tests}
use Rattle.model.specs.Limits.{peg_count, most_slots, outside}
use Rattle.model.specs.Refusals.{left_by}
use Rattle.model.specs.Charts.{Chart, lesser, zipped, at}
use Rattle.model.specs.Contents.{Contents}
use Rattle.model.specs.Calls.{Lawful, open_checks}
use Rattle.model.specs.Masks.{wanted}
use Rattle.model.specs.Shelves.{Meaning, Pegs, does, done, with_pegs, on, bare}
use Rattle.theory.specs.Iteration.{relax}
use Rattle.theory.specs.Tables.{table_of}
use Rattle.theory.proofs.Told.{contents_told, no_refusal}
use Rattle.rule.specs.Steps.{Step, calls, marked, copy, round_0, round}
use Rattle.rule.specs.Running.{ran, after_steps}
use Rattle.rule.specs.Rule.{chart_after}
use Rattle.rule.specs.Bridge.{tab}
use Rattle.rule.proofs.Prefixes.{after_one}
use Rattle.rule.proofs.Tabs.{tab_as, tab_zipped, lesser_same}
use Rattle.rule.proofs.Whole.{rounds_tab, rounds_run, starts_run, five}
use Rattle.steps.specs.Ends.{stopped, ends, leaves}
use Rattle.steps.proofs.Steps.{err_is_not_ok}

-- steps that are all accepted leave what they leave, capacity apart
pub leaves_ran : (m : Meaning) (xs : List Step) → ends m xs ≡ Ok tt → leaves m xs ≡ after_steps m xs
leaves_ran m [] e = refl
leaves_ran m (x ∷ xs) e = go (does m x.call) (leaves_ran (done m x.call) xs) e
  where
    go : (r : Result (Unit {0}) ℕ) →
        (ends (left_by r (after_one m x) m) xs ≡ Ok tt → leaves (left_by r (after_one m x) m) xs ≡ after_steps (left_by r (after_one m x) m) xs) →
        stopped r x (ends (left_by r (after_one m x) m) xs) ≡ Ok tt → left_by r (leaves (left_by r (after_one m x) m) xs) m ≡ after_steps (after_one m x) xs
    go (Ok _) f h = f h
    go (Err n) f h = absurd (err_is_not_ok _ _ h)

-- steps change nothing but the pegs
pub leaves_frame : (m : Meaning) (xs : List Step) → leaves m xs ≡ with_pegs m (leaves m xs).pegs
leaves_frame m [] = refl
leaves_frame m (x ∷ xs) = go (does m x.call) (leaves_frame (done m x.call) xs)
  where
    go : (r : Result (Unit {0}) ℕ) → leaves (left_by r (after_one m x) m) xs ≡ with_pegs (left_by r (after_one m x) m) (leaves (left_by r (after_one m x) m) xs).pegs →
        left_by r (leaves (left_by r (after_one m x) m) xs) m ≡ with_pegs m (left_by r (leaves (left_by r (after_one m x) m) xs) m).pegs
    go (Ok _) h = h
    go (Err n) h = refl

pub leaves_shape : (m : Meaning) (xs : List Step) → (leaves m xs).shape ≡ m.shape
leaves_shape m xs = ap (λ (k : Meaning). k.shape) (leaves_frame m xs)

-- a peg with a chart is not bare, and carries it
pub hung_peg : (ps : Pegs) (p : ℕ) (x : Chart) → get_or ps p None ≡ Some x → (bare ps p ≡ false) × (on ps p ≡ x)
hung_peg ps p x e = (rw e, rw e)

module _ (c : Contents) (law : Lawful c) (m : Meaning) (same : m.shape ≡ c.settings) (long : length m.pegs ≡ peg_count) (n : ℕ) where
  -- a round leaves the chart on peg 0, and the next one on peg 1
  pub round_leaves : get_or m.pegs 0 None ≡ Some (chart_after c n) → ends m (round (n + 1) c.slots) ≡ Ok tt →
      (get_or (leaves m (round (n + 1) c.slots)).pegs 0 None ≡ Some (chart_after c n)) × (get_or (leaves m (round (n + 1) c.slots)).pegs 1 None ≡ Some (chart_after c (suc n)))
  round_leaves at_0 ok =
      let told = contents_told c law in
      let xs = round (n + 1) c.slots in
      let self : chart_after c n ≡ tab c.settings (at c.settings (chart_after c n)) = rounds_tab c.settings (table_of c.slots) (wanted c.masks) n in
      let both = rounds_run c.settings told.shape c.slots told.each_slot m.pegs long (at c.settings (chart_after c n)) (at_0 ∙ ap Some self) (n + 1) in
      let pegs : (leaves m xs).pegs ≡ ran c.settings m.pegs (calls xs) = ap (λ (k : Meaning). k.pegs) (leaves_ran m xs ok) ∙ ap (λ ns. ran ns m.pegs (calls xs)) same in
      (ap (λ ps. get_or ps 0 None) pegs ∙ both.0 ∙ ap Some (sym self), ap (λ ps. get_or ps 1 None) pegs ∙ both.1)

  -- and the copy leaves it on peg 0
  pub copy_leaves : (r : ℕ) → get_or m.pegs 1 None ≡ Some (chart_after c (suc n)) → ends m (marked r None (copy 0 1 ∷ [])) ≡ Ok tt →
      get_or (leaves m (marked r None (copy 0 1 ∷ []))).pegs 0 None ≡ Some (chart_after c (suc n))
  copy_leaves r at_1 ok =
      let u = relax (table_of c.slots) (at c.settings (chart_after c n)) in
      let k = five m.pegs long in
      let x = on m.pegs 1 in
      let is : x ≡ chart_after c (suc n) = (hung_peg m.pegs 1 (chart_after c (suc n)) at_1).1 in
      let twice : zipped lesser (tab c.settings u) (tab c.settings u) ≡ tab c.settings u = tab_zipped c.settings lesser u u ∙ tab_as c.settings _ _ (λ s l. lesser_same (u s)) in
      ap (λ (j : Meaning). get_or j.pegs 0 None) (leaves_ran m (marked r None (copy 0 1 ∷ [])) ok)
      ∙ ap (λ ps. get_or (set ps 0 (Some (zipped lesser x x))) 0 None) k.is
      ∙ ap (λ y. Some (zipped lesser y y)) is ∙ ap Some twice

-- round 0 leaves the first chart on peg 0
pub zeroth_leaves : (c : Contents) → Lawful c → (m : Meaning) → m.shape ≡ c.settings → length m.pegs ≡ peg_count → ends m (marked 0 None (round_0 c.masks)) ≡ Ok tt →
    get_or (leaves m (marked 0 None (round_0 c.masks))).pegs 0 None ≡ Some (chart_after c 0)
zeroth_leaves c law m same long ok =
    let xs = marked 0 None (round_0 c.masks) in
    ap (λ (k : Meaning). get_or k.pegs 0 None) (leaves_ran m xs ok)
    ∙ ap (λ ns. get_or (ran ns m.pegs (calls xs)) 0 None) same
    ∙ ap (λ ys. get_or (ran c.settings m.pegs (calls ys)) 0 None) (sym (append-nil xs))
    ∙ starts_run c law m.pegs long 0

-- no more slots than a byte can number
pub few_slots : (c : Contents) → Lawful c → length c.slots ≤ most_slots
few_slots c law =
    let off : outside 1 most_slots (length c.slots) ≡ false = (no_refusal (open_checks c.settings c.names c.scene (length c.slots)) law.opens).1.1.0 in
    grind (arith, nat_tests)

-- a list as the code has it is as long as it is seen
pub seen_length : {X Y : Type 0} (f : X → Y) (xs : List X) (ys : List Y) → map f xs ≡ ys → length xs ≡ length ys
seen_length f xs ys e = sym (length-map xs f) ∙ ap length e
