-- Where a move leads, and whether it loses no time. Assumes nothing.
use Rattle.std.proofs.Common.{◌≡◌, ℕ, ◌+◌, ◌-◌, ◌≤◌, ◌==◌, Bool, true, false, cond, not, eqb, leb, List, [], ◌∷◌, length, Some, None, Ok, Err, Result, sym, refl, ap, ◌∙◌, subst, arith}
use Rattle.std.proofs.Math.Logic.{∥∥₁_elim}
use mathlib.Core.List.{is_set}
use native.Mathlib.Nat.{ℕ_set}
use Rattle.std.proofs.lemmas.Bool.{lt-leb}
use Rattle.std.proofs.lemmas.Option.{none-some, same_Some}
use Rattle.std.specs.Bool.{then_some, Decides}
use Rattle.std.proofs.lemmas.Bool.Decides.{nat_tests, Decides-eqb}
use Rattle.lists.specs.Shorts.{listed}
use Rattle.model.specs.Lists.{some_two}
use Rattle.model.specs.Scenes.{Shape, Scene, SceneOf}
use Rattle.model.specs.Charts.{Time, at}
use Rattle.model.specs.Moves as model
use Rattle.model.specs.Moves.{all_hold, applied, time}
use Rattle.model.specs.Contents.{Contents}
use Rattle.model.specs.Shelves.{Meaning, reads, bare, on}
use Rattle.model.proofs.Ranks.{scene_length}
use Rattle.theory.specs.Iteration.{through, later}
use Rattle.theory.specs.Tables.{action_of}
use Rattle.theory.specs.Wellformed.{LawfulMove}
use Rattle.theory.proofs.Tabling.{lawful_action}
use Rattle.shelf.specs.declared.fault.ShelfFault.{ShelfFault}
use Rattle.shelf.specs.Faults.{numbered}
use Rattle.steps.proofs.Steps.{err_is_not_ok}
use Rattle.planner.specs.declared.point.Point.{Point}
use Rattle.planner.specs.Walking.{first_peg, Ready, Stands, Leads, Led}

-- What a scene is read from

none_high : (ns : Shape) (s : Scene) → SceneOf ns s → some_two leb ns s ≡ false
none_high [] [] h = refl
none_high [] (x ∷ xs) h = absurd h
none_high (n ∷ ns) [] h = absurd h
none_high (n ∷ ns) (x ∷ xs) h = rw (lt-leb n x h.0) (none_high ns xs h.1)

-- a scene of the shape is read from a peg that is not bare
pub reads_time : (m : Meaning) (s : Scene) → bare m.pegs 0 ≡ false → SceneOf m.shape s → reads m 0 s ≡ Ok (at m.shape (on m.pegs 0) s)
reads_time m s hung within =
    let long : length s ≡ length m.shape = scene_length m.shape s within in
    let few : some_two leb m.shape s ≡ false = none_high m.shape s within in
    let same : not (eqb (length s) (length m.shape)) ≡ false = grind (arith, nat_tests) in
    rw (same, few, hung)

-- a call that is answered, by the number that it might be refused with
pub answered : {X : Type 0} (r : Result X ShelfFault) (x : X) → numbered r ≡ Ok x → r ≡ Ok x
answered (Ok y) x e = let same : y ≡ x = cc in ap Ok same
answered (Err f) x e = absurd (err_is_not_ok _ _ e)

-- what a walk's type says of the shelf
pub ready_shape : {c : Contents} {m : Meaning} → ∥ Ready c m ∥₁ → m.shape ≡ c.settings
ready_shape h = ∥∥₁_elim h (is_set ℕ_set _ _) (λ r. r.shape)

-- what was said of a slice holds of what it lends
said_of : (b : Bool) (s s' : Scene) (ps ps' : List model.Pair) → s' ≡ s → ps' ≡ ps → b ≡ all_hold s' ps' → all_hold s ps ≡ b
said_of b s s' ps ps' es eps h = sym (h ∙ ap (λ t. all_hold t ps') es ∙ ap (all_hold s) eps)

-- a move that may be made in a scene, and where its effects lead
pub record Reached (s : Scene) (a : model.Move) (t : Scene) : Type 0 where
  pub met : all_hold s a.conditions ≡ true
  pub led : t ≡ applied a.effects s

-- as the code has it, from what it lends of the scene, the conditions and the effects
pub reached : (a : model.Move) {s lent t : Scene} {ps qs : List model.Pair} → lent ≡ s → ps ≡ a.conditions → true ≡ all_hold lent ps → qs ≡ a.effects → t ≡ applied qs s → Reached s a t
reached a {s} {lent} {t} {ps} {qs} scene conditions holds effects led = record { met = said_of true s lent a.conditions ps scene conditions holds; led = led ∙ ap (λ es. applied es s) effects }

module _ (c : Contents) (m : Meaning) (p : Point) (stands : Stands c m p) (a : model.Move) (law : LawfulMove c.settings a) where
  abbrev v : Scene → Time
  v = first_peg c m

  abbrev next : Scene
  next = applied a.effects (listed p.scene)

  by_conditions : (b : Bool) → all_hold (listed p.scene) a.conditions ≡ b → through (Some (action_of a)) v (listed p.scene) ≡ cond b (later (time a (listed p.scene)) (v next)) None
  by_conditions b e = ap (λ d. cond d (later (time a (listed p.scene)) (v next)) None) e

  module _ (met : all_hold (listed p.scene) a.conditions ≡ true) where
    -- what is left after it
    later_is : (o : Time) → later (time a (listed p.scene)) o ≡ Some p.left → (u : ℕ) × (o ≡ Some u) × (time a (listed p.scene) + u ≡ p.left)
    later_is None e = absurd (none-some _ e)
    later_is (Some u) e = (u, refl, same_Some _ _ e)

    pub next_within : SceneOf c.settings next
    next_within = (lawful_action c.settings a law).keeps (listed p.scene) stands.within met

    pub next_within_shelf : m.shape ≡ c.settings → (t : Scene) → t ≡ next → SceneOf m.shape t
    next_within_shelf same t e = subst (λ x. SceneOf m.shape x) (sym e) (subst (λ ns. SceneOf ns next) (sym same) next_within)

    -- there is no time, or another one, from where it leads
    pub loses : (o : Time) → v next ≡ o → (o ≡ Some (p.left - time a (listed p.scene)) → ⊥) → Led c m p (Some (action_of a)) None
    loses o e other h =
        let k = later_is (v next) (sym (by_conditions true met) ∙ h) in
        let z : k.0 ≡ p.left - time a (listed p.scene) = omega (arith, k.2) in
        other (sym e ∙ k.1 ∙ ap Some z)

    -- it loses no time
    pub leads : (q : Point) → listed q.scene ≡ next → time a (listed p.scene) ≤ p.left → q.left ≡ p.left - time a (listed p.scene) → v next ≡ Some q.left → Leads c m p (Some (action_of a)) q
    leads q e le is after =
        let z : time a (listed p.scene) + q.left ≡ p.left = omega arith in
        let some : 1 ≤ time a (listed p.scene) = (lawful_action c.settings a law).some (listed p.scene) stands.within in
        record {
          action = action_of a;
          there = refl;
          keeps = by_conditions true met ∙ ap (later (time a (listed p.scene))) after ∙ ap Some z;
          next = e;
          stands = record { within = subst (SceneOf c.settings) (sym e) next_within; timed = ap v e ∙ after };
          less = omega arith;
        }

    -- it is asked whether it loses time
    pub led_if : (q : Point) (u : ℕ) → listed q.scene ≡ next → time a (listed p.scene) ≤ p.left → q.left ≡ p.left - time a (listed p.scene) → v next ≡ Some u → Led c m p (Some (action_of a)) (then_some (u == q.left) q)
    led_if q u e le is after = go (u == q.left) (Decides-eqb u q.left)
      where
        go : (b : Bool) → Decides b (u ≡ q.left) → Led c m p (Some (action_of a)) (then_some b q)
        go true d = leads q e le is (after ∙ ap Some (d.0 refl))
        go false d = loses (Some u) after (λ z. let y : ◌≡◌ {A = Bool} false true = d.1 (same_Some _ _ z ∙ sym is) in let n : ◌≡◌ {A = ℕ} 0 1 = cc in absurd (omega arith))

-- peg 0 in the words of the shelf's own shape
pub first_peg_is : (c : Contents) (m : Meaning) → m.shape ≡ c.settings → (s t : Scene) (o : Time) → s ≡ t → o ≡ at m.shape (on m.pegs 0) s → first_peg c m t ≡ o
first_peg_is c m same s t o e h = sym (h ∙ ap (λ ns. at ns (on m.pegs 0) s) same ∙ ap (at c.settings (on m.pegs 0)) e)
