-- What pegs carry while the store grows, what an attempt to hang a chart leaves, and that no time of the chart is late. Assumes nothing.
use Rattle.std.proofs.Common.{◌≡◌, ℕ, zero, suc, ◌-◌, ◌<◌, ◌≤◌, false, not, List, [], ◌∷◌, length, get_or, set, is_some, Some, None, Option, sym, refl, ap, ◌∙◌, subst, inl, arith}
use Rattle.std.specs.List.{AllByRecursion, flat_map}
use Rattle.std.proofs.lemmas.Bool.{both_ways}
use Rattle.std.proofs.lemmas.List.{map-set}
use Rattle.std.proofs.lemmas.List.Elements.{All-from_recursion, recursion_from_All, All-set}
use Rattle.nodes.specs.declared.edge.Edge.{Edge}
use Rattle.nodes.specs.declared.node.Node.{Node}
use Rattle.model.specs.Charts.{Time, Chart, dialled, put_chart, late}
use Rattle.model.specs.Lists.{some}
use Rattle.model.specs.Parts.{parts, parts_of_all}
use Rattle.model.specs.Scenes.{Shape}
use Rattle.model.specs.Shelves.{on, bare, charts, chart_of, diagram_fill}
use Rattle.parts.proofs.Pieces.{in_right}
use Rattle.store.specs.Stores.{chart}
use Rattle.store.specs.Fillings.{Stuck, Owned, name}
use Rattle.store.proofs.Fits.{roomy, overfull}
use Rattle.build.specs.Builds.{Stands}
use Rattle.build.specs.Grew.{nodes_in, shape_in, Grew}
use Rattle.build.specs.declared.node_store.NodeStore.{NodeStore}
use Rattle.pegs.specs.Held.{peg_chart, pegs_of, peg_fine, pegs_in, Held}
use Rattle.pegs.proofs.Sweeps.{edges_on, charts_on, fine_on, pegs_fine_kept, pegs_kept}
use Rattle.hang.specs.Tasks.{Allowed, made}
use Rattle.hang.specs.declared.task.Task.{Task}
use Rattle.hang.specs.declared.task.Task.TheVariants.{Dial, Join, Put}
use Rattle.puts.proofs.Putting.{goal_timely}
use Rattle.dials.proofs.Turns.{dial_timely}

-- Pegs

peg_is : (nodes : List (Option Node)) (shape : Shape) (pegs : List (Option Edge)) (a : ℕ) → get_or (pegs_of nodes shape pegs) a None ≡ peg_chart nodes shape (get_or pegs a None)
peg_is nodes shape [] a = refl
peg_is nodes shape (p ∷ ps) zero = refl
peg_is nodes shape (p ∷ ps) (suc a) = peg_is nodes shape ps a

on_is : (nodes : List (Option Node)) (shape : Shape) (pegs : List (Option Edge)) (a : ℕ) (e : Edge) → get_or pegs a None ≡ Some e → on (pegs_of nodes shape pegs) a ≡ chart nodes shape e
on_is nodes shape pegs a e h = ap chart_of (peg_is nodes shape pegs a ∙ ap (peg_chart nodes shape) h)

-- a peg that is not bare carries an edge
pub carries : (nodes : List (Option Node)) (shape : Shape) (pegs : List (Option Edge)) (a : ℕ) → bare (pegs_of nodes shape pegs) a ≡ false → get_or pegs a None ≡ None → ⊥
carries nodes shape pegs a h none = both_ways (bare (pegs_of nodes shape pegs) a) h (ap (λ p. not (is_some p)) (peg_is nodes shape pegs a ∙ ap (peg_chart nodes shape) none))

all_at : (P : Option Edge → Type 0) (pegs : List (Option Edge)) (a : ℕ) (e : Edge) → AllByRecursion P pegs → get_or pegs a None ≡ Some e → P (Some e)
all_at P [] a e f h = absurd (let z : ◌≡◌ {A = ℕ} 0 1 = cc in omega arith)
all_at P (p ∷ ps) zero e f h = subst P h f.0
all_at P (p ∷ ps) (suc a) e f h = all_at P ps a e f.1 h

peg_held : (store : NodeStore) (pegs : List (Option Edge)) (a : ℕ) (e : Edge) → Held store pegs → get_or pegs a None ≡ Some e → peg_fine (nodes_in store) (shape_in store) (Some e)
peg_held store pegs a e held h = all_at (peg_fine (nodes_in store) (shape_in store)) pegs a e held.fine h

-- An attempt

owned_more : (nodes : List (Option Node)) (shape : Shape) (c : Chart) (cs : List Chart) → Owned nodes shape cs → Owned nodes shape (c ∷ cs)
owned_more nodes shape c cs o k x h = in_right (name nodes shape k) (parts shape 0 c) (flat_map (parts shape 0) cs) (o k x h)

module _ {old new : NodeStore} {pegs : List (Option Edge)} {c : Chart} (held : Held old pegs) (g : Grew old new 0 c) where
  still_fine : AllByRecursion (peg_fine (nodes_in new) (shape_in old)) pegs
  still_fine = pegs_fine_kept (nodes_in old) (nodes_in new) (shape_in old) old.ready.store g.grows.kept pegs held.fine

  still_carries : pegs_of (nodes_in new) (shape_in old) pegs ≡ pegs_in old pegs
  still_carries = pegs_kept (nodes_in old) (nodes_in new) (shape_in old) old.ready.store g.grows.kept pegs held.fine

  pub still_held : Held new pegs
  still_held = record { fine = subst (λ s. AllByRecursion (peg_fine (nodes_in new) s) pegs) (sym g.same) still_fine }

  pub still_same : pegs_in new pegs ≡ pegs_in old pegs
  still_same = ap (λ s. pegs_of (nodes_in new) s pegs) g.same ∙ still_carries

  pub try_full : Stuck (nodes_in new) (shape_in old) 0 c → Owned (nodes_in old) (shape_in old) (charts (pegs_in old pegs)) → length (nodes_in old) < diagram_fill (shape_in old) (pegs_in old pegs) c
  try_full s owned =
      let cs = charts (pegs_in old pegs) in
      let r = overfull (nodes_in old) (nodes_in new) (shape_in old) old.ready.store g.grows.store g.grows.kept (c ∷ cs) c (inl refl) (owned_more (nodes_in old) (shape_in old) c cs owned) g.grows.grown s in
      omega (arith, r, g.grows.same)

  module _ (e : Edge) (st : Stands (nodes_in new) (shape_in old) 0 c e) where
    pub try_held : some late c ≡ false → (t : ℕ) → Held new (set pegs t (Some e))
    try_held timely t =
        let fine = peg_fine (nodes_in new) (shape_in old) in
        let all = recursion_from_All fine (set pegs t (Some e)) (All-set fine pegs t (Some e) (st.0, ap (some late) st.1 ∙ timely) (All-from_recursion fine pegs still_fine)) in
        record { fine = subst (λ s. AllByRecursion (peg_fine (nodes_in new) s) (set pegs t (Some e))) (sym g.same) all }

    pub try_same : (t : ℕ) → pegs_in new (set pegs t (Some e)) ≡ set (pegs_in old pegs) t (Some c)
    try_same t =
        let p = still_carries in
        let q = ap {B = Option Chart} Some st.1 in
        ap (λ s. pegs_of (nodes_in new) s (set pegs t (Some e))) g.same ∙ map-set (peg_chart (nodes_in new) (shape_in old)) pegs t (Some e) ∙ (λ i. set (p i) t (q i))

    pub try_room : diagram_fill (shape_in old) (pegs_in old pegs) c ≤ length (nodes_in old)
    try_room =
        let r = roomy (nodes_in new) (shape_in old) g.grows.store (e ∷ edges_on pegs) (st.0, fine_on (nodes_in new) (shape_in old) pegs still_fine) in
        let p = sym (charts_on (nodes_in new) (shape_in old) pegs) ∙ ap charts still_carries in
        let q = st.1 in
        let r' = subst (λ (cs : List Chart). parts_of_all (shape_in old) cs ≤ length (nodes_in new)) (λ i. q i ∷ p i) r in
        omega (arith, r', g.grows.same)

-- The chart to be hung

dial_is : (shape : Shape) (v : ℕ) (es : List Time) → dialled shape (v - 0) es ≡ dialled shape v es
dial_is shape v es = ap (λ k. dialled shape k es) (let z : v - 0 ≡ v = omega arith in z)

-- no time of it is late
pub made_timely : (store : NodeStore) (pegs : List (Option Edge)) (task : Task) → Held store pegs → Allowed (shape_in store) (pegs_in store pegs) task → some late (made (shape_in store) (pegs_in store pegs) task) ≡ false
made_timely store pegs (Dial v es) held a = ap (some late) (sym (dial_is (shape_in store) v es)) ∙ dial_timely (shape_in store) 0 v es (omega arith) a.0 a.1
made_timely store pegs (Join op x y) held a = a.2
made_timely store pegs (Put x v d) held a = go (get_or pegs x None) refl
  where
    go : (p : Option Edge) → get_or pegs x None ≡ p → some late (put_chart (shape_in store) v d (on (pegs_in store pegs) x)) ≡ false
    go None h = absurd (carries (nodes_in store) (shape_in store) pegs x a.0 h)
    go (Some e) h = goal_timely (shape_in store) v d (on (pegs_in store pegs) x) (ap (some late) (on_is (nodes_in store) (shape_in store) pegs x e h) ∙ (peg_held store pegs x e held h).1)
