-- The calls of a diagram shelf that hang a chart, once their numbers and pegs were judged. Assumes nothing.
use Rattle.std.proofs.Common.{◌≡◌, ℕ, ◌<◌, Bool, true, false, ◌&&◌, ◌||◌, ltb, leb, [], ◌∷◌, length, slice_index, slice_set, None, Ok, Err, Result, sym, refl, ap, ◌∙◌, subst, inl, inr}
use Rattle.std.proofs.lemmas.Bool.{and_right, or_right, lt-leb, le-leb}
use Rattle.std.proofs.lemmas.List.{map-set}
use Rattle.nodes.specs.declared.edge.Edge.{Edge}
use Rattle.model.specs.Charts.{Time, at, late, plus, greatest, same_chart}
use Rattle.model.specs.Refusals.{refuse, answer}
use Rattle.model.specs.Scenes.{Shape, Scene, SceneOf}
use Rattle.model.specs.Shelves.{Meaning, cheaper, sum, put, on, does, no_room, high, bare, with_pegs, wipes, wiped, compares, reads, scene_checks}
use Rattle.model.proofs.Refusing.{accepts, refuses, accepted, accepted_first, left_ok}
use Rattle.model.proofs.Ranks.{tests_scene}
use Rattle.model.proofs.Charting.{same_is_equal}
use Rattle.nodes.specs.Equals.{edge_eq}
use Rattle.nodes.proofs.Sameness.{edge_eq_decides}
use Rattle.model.proofs.Lateness.{late_tells}
use Rattle.store.specs.Stores.{chart}
use Rattle.store.proofs.Canon.{canonical}
use Rattle.build.specs.Grew.{nodes_in, shape_in}
use Rattle.hang.specs.Tasks.{call_of, made, Allowed}
use Rattle.hang.specs.declared.task.Task.{Task}
use Rattle.pegs.specs.Held.{peg_chart, pegs_in}
use Rattle.shelf.specs.Faults.{number, numbered}
use Rattle.shelf.specs.Numbers.{NoChart}
use Rattle.shelf.specs.declared.fault.ShelfFault.{ShelfFault}
use Rattle.shelf.specs.declared.numbers.Peg.{Peg}
use Rattle.shelf.proofs.Calling.{Answered, low_peg, low_pegs, all_low, none_bare, bare_is, compares_charts}
use Rattle.diagram.specs.declared.diagram_shelf.DiagramShelf.{DiagramShelf}
use Rattle.diagram.specs.Means.{means, Hung}
use Rattle.diagram.specs.Soundness.{sound_of}
use Rattle.diagram.specs.Numbers.{Carries, hung_in}
use Rattle.diagram.proofs.Pegs.{tells, hangs, on_is, fine_is}
use Rattle.diagram.proofs.Calling.{Passes, allowed, answers}

-- a task that nothing but room can refuse, of a target with a name
module _ (s : DiagramShelf) (target : Peg) (task : Task) (passes : Passes (means s) (call_of target.number task)) where
  pub may : Allowed (means s).shape (means s).pegs task
  may = allowed (means s) (sound_of s) target.number task passes

  pub told : (t : ℕ) → target.number ≡ t → (n : Meaning) (r : Result (Unit {0}) ShelfFault) → Hung (means s) n target.number (made (means s).shape (means s).pegs task) r → Answered (means s) (call_of t task) (numbered r) n
  told t named n r w = subst (λ k. Answered (means s) (call_of k task) (numbered r) n) named (answers (means s) n target.number task passes r w)

-- the greatest time that an edge's chart has
abbrev reach : DiagramShelf → Edge → Time
reach s e = greatest (chart (nodes_in s.charts.diagrams.store) (shape_in s.charts.diagrams.store) e)

pub reach_legal : (s : DiagramShelf) (p : ℕ) (e : Edge) → Carries s.charts.pegs p e → (a : Time) → a ≡ reach s e → late a ≡ false
reach_legal s p e c a is = ap late is ∙ sym (late_tells (chart (nodes_in s.charts.diagrams.store) (shape_in s.charts.diagrams.store) e)) ∙ (fine_is s p e c).1

-- two pegs that are read
module _ (s : DiagramShelf) (target : Peg) (l r : ℕ) (x y : Edge) (cx : Carries s.charts.pegs l x) (cy : Carries s.charts.pegs r y) where
  pub cheaper_passes : Passes (means s) (cheaper target.number l r)
  cheaper_passes = (all_low target.number l r target.low cx.0 cy.0, (none_bare (means s) (hung_in s.charts.pegs) (tells s) l r cx.0 cy.0 (hangs s l x cx) (hangs s r y cy), tt))

  reaches : late (plus (greatest (on (means s).pegs l)) (greatest (on (means s).pegs r))) ≡ late (plus (reach s x) (reach s y))
  reaches = let p = on_is s l x cx in let q = on_is s r y cy in λ i. late (plus (greatest (p i)) (greatest (q i)))

  -- whether the greatest times of the two add to too much, as it was told of them
  module _ (a b : Time) (ea : a ≡ reach s x) (eb : b ≡ reach s y) (v : Bool) (is : v ≡ late (plus a b)) where
    sum_is : late (plus (greatest (on (means s).pegs l)) (greatest (on (means s).pegs r))) ≡ v
    sum_is = reaches ∙ sym (λ i. late (plus (ea i) (eb i))) ∙ sym is

    pub sum_passes : v ≡ false → Passes (means s) (sum target.number l r)
    sum_passes h =
        let c = cheaper_passes in
        (c.0, (c.1.0, (sum_is ∙ h, tt)))

    pub sum_too_late : (t : ℕ) → target.number ≡ t → v ≡ true → does (means s) (sum t l r) ≡ Err 16
    sum_too_late t named h =
        let m = means s in
        let c = cheaper_passes in
        subst (λ k. does m (sum k l r) ≡ Err 16) named
        (refuses (refuse 14 (high target.number || (high l || high r)) ∷ refuse 15 (bare m.pegs l || bare m.pegs r) ∷ []) 16 (late (plus (greatest (on m.pegs l)) (greatest (on m.pegs r)))) (no_room m (sum target.number l r) ∷ []) tt (c.0, (c.1.0, tt)) (sum_is ∙ h))

-- a source that carries nothing
pub put_refused : (s : DiagramShelf) (t a v d : ℕ) (f : ShelfFault) → v < length (means s).shape → d < slice_index (means s).shape v → t < 8 → NoChart (hung_in s.charts.pegs) a f → does (means s) (put t a v d) ≡ Err (number f)
put_refused s t a v d f low legal ht none =
    let m = means s in
    let known = lt-leb (length m.shape) v low in
    let set = and_right (ltb v (length m.shape)) (leb (slice_index m.shape v) d) (lt-leb (slice_index m.shape v) d legal) in
    elim none [
      | inl h ↦ rw h.0 (refuses (refuse 7 (leb (length m.shape) v) ∷ refuse 8 (ltb v (length m.shape) && leb (slice_index m.shape v) d) ∷ []) 14 (high t || high a) (refuse 15 (bare m.pegs a) ∷ no_room m (put t a v d) ∷ []) tt (known, (set, tt)) (or_right (high t) (high a) (le-leb 8 a h.1)))
      | inr h ↦ rw h.0 (refuses (refuse 7 (leb (length m.shape) v) ∷ refuse 8 (ltb v (length m.shape) && leb (slice_index m.shape v) d) ∷ refuse 14 (high t || high a) ∷ []) 15 (bare m.pegs a) (no_room m (put t a v d) ∷ []) tt (known, (set, (low_pegs t a ht h.1, tt))) (bare_is m (hung_in s.charts.pegs) (tells s) a h.1 false h.2))
    ]

-- a peg that is wiped
pub wiped_is : (s : DiagramShelf) (p : ℕ) → p < 8 → pegs_in s.charts.diagrams.store (slice_set s.charts.pegs p None) ≡ slice_set (means s).pegs p None
wiped_is s p h = map-set (peg_chart (nodes_in s.charts.diagrams.store) (shape_in s.charts.diagrams.store)) s.charts.pegs p None

pub wipe_leaves : (s : DiagramShelf) (p t : ℕ) → p < 8 → p ≡ t → with_pegs (means s) (slice_set (means s).pegs p None) ≡ wiped (means s) t
wipe_leaves s p t h named = subst (λ k. with_pegs (means s) (slice_set (means s).pegs p None) ≡ wiped (means s) k) named (sym (left_ok (wipes (means s) p) tt (with_pegs (means s) (slice_set (means s).pegs p None)) (means s) (accepts (refuse 14 (high p) ∷ []) tt (low_peg p h, tt))))

-- Two pegs compared

both_ways_same : (b c : Bool) → (b ≡ true → c ≡ true) → (c ≡ true → b ≡ true) → b ≡ c
both_ways_same true c f g = sym (f refl)
both_ways_same false true f g = g refl
both_ways_same false false f g = refl

pub compares_edges : (s : DiagramShelf) (l r : ℕ) (x y : Edge) → Carries s.charts.pegs l x → Carries s.charts.pegs r y → (b : Bool) → b ≡ edge_eq x y → Ok b ≡ compares (means s) l r
compares_edges s l r x y cx cy b is =
    let store = s.charts.diagrams.store in
    let shape = shape_in store in
    let cs = chart (nodes_in store) shape in
    let eq = edge_eq_decides x y in
    let same = same_is_equal (cs x) (cs y) in
    let p = on_is s l x cx in
    let q = on_is s r y cy in
    let z : edge_eq x y ≡ same_chart (cs x) (cs y) =
    both_ways_same _ _ (λ h. same.1 (ap cs (eq.0 h))) (λ h. eq.1 (canonical (nodes_in store) shape store.ready.store x y (fine_is s l x cx).0 (fine_is s r y cy).0 (same.0 h))) in
    ap Ok (is ∙ z) ∙ sym (λ i. Ok (same_chart (p i) (q i))) ∙ sym (compares_charts (means s) (hung_in s.charts.pegs) (tells s) l r cx.0 cy.0 (hangs s l x cx) (hangs s r y cy))

-- A scene read

pub scene_is : (ns : Shape) (sc : Scene) → ◌≡◌ {A = Result (Unit {0}) ℕ} (Ok tt) (answer (scene_checks ns sc) tt) → SceneOf ns sc
scene_is ns sc e =
    let checks = accepted (scene_checks ns sc) tt tt (sym e) in
    tests_scene ns sc checks.0 checks.1.0

pub read_refused : (s : DiagramShelf) (p : ℕ) (sc : Scene) (f : ShelfFault) → ◌≡◌ {A = Result (Unit {0}) ℕ} (Ok tt) (answer (scene_checks (means s).shape sc) tt) → NoChart (hung_in s.charts.pegs) p f → reads (means s) p sc ≡ Err (number f)
read_refused s p sc f e none =
    let m = means s in
    let first = accepted_first (scene_checks m.shape sc) (refuse 14 (high p) ∷ refuse 15 (bare m.pegs p) ∷ []) tt tt (at m.shape (on m.pegs p) sc) (sym e) in
    elim none [
      | inl h ↦ rw h.0 (first ∙ refuses [] 14 (high p) (refuse 15 (bare m.pegs p) ∷ []) (at m.shape (on m.pegs p) sc) tt (le-leb 8 p h.1))
      | inr h ↦ rw h.0 (first ∙ refuses (refuse 14 (high p) ∷ []) 15 (bare m.pegs p) [] (at m.shape (on m.pegs p) sc) (low_peg p h.1, tt) (bare_is m (hung_in s.charts.pegs) (tells s) p h.1 false h.2))
    ]
