-- The steps of an attempt to hang a chart in lent slots. Assumes nothing.
use Rattle.std.proofs.Common.{◌≡◌, ℕ, zero, suc, ◌-◌, ◌<◌, ◌≤◌, Bool, true, false, List, [], ◌∷◌, length, get_or, set, Some, None, Option, sym, refl, ap, ◌∙◌, subst, inl, arith}
use Rattle.std.specs.List.{AllByRecursion, flat_map}
use Rattle.std.proofs.lemmas.List.{map-set}
use Rattle.std.proofs.lemmas.List.Elements.{All-from_recursion, recursion_from_All, All-set}
use Rattle.nodes.specs.declared.edge.Edge.{Edge}
use Rattle.nodes.specs.declared.node.Node.{Node}
use Rattle.nodes.specs.declared.remembered.Op.{Op}
use Rattle.model.specs.Charts.{Time, Chart, zipped, dialled, put_chart, late}
use Rattle.model.specs.Lists.{some}
use Rattle.model.specs.Parts.{parts, parts_of_all}
use Rattle.model.specs.Scenes.{Shape}
use Rattle.model.specs.Shelves.{Pegs, on, charts, chart_of, diagram_fill}
use Rattle.parts.proofs.Pieces.{in_right}
use Rattle.store.specs.Stores.{chart}
use Rattle.store.specs.Fillings.{Stuck, Owned, name}
use Rattle.store.proofs.Fits.{roomy, overfull}
use Rattle.build.specs.Builds.{Grows, Stands}
use Rattle.memo.specs.Operations.{entry}
use Rattle.apply.specs.Joins.{goal, Joinable}
use Rattle.pegs.specs.Held.{peg_chart, pegs_of, peg_fine}
use Rattle.pegs.proofs.Sweeps.{edges_on, charts_on, fine_on, pegs_fine_kept, pegs_kept}
use Rattle.hang.proofs.Trying.{carries}
use Rattle.hang.specs.Tasks.{Allowed, made}
use Rattle.hang.specs.declared.task.Task.{Task}
use Rattle.hang.specs.declared.task.Task.TheVariants.{Dial, Join, Put}
use Rattle.puts.specs.Puts.{goal as puts_goal}
use Rattle.puts.proofs.Putting.{goal_timely}
use Rattle.dials.proofs.Turns.{dial_timely}
use Rattle.lent.specs.Held.{Held}
use Rattle.lent.specs.Told.{Told, Tried}
use Rattle.lent.proofs.Growing.{ready_after}

-- Pegs

peg_is : (nodes : List (Option Node)) (shape : Shape) (pegs : List (Option Edge)) (a : ℕ) → get_or (pegs_of nodes shape pegs) a None ≡ peg_chart nodes shape (get_or pegs a None)
peg_is nodes shape [] a = refl
peg_is nodes shape (p ∷ ps) zero = refl
peg_is nodes shape (p ∷ ps) (suc a) = peg_is nodes shape ps a

pub on_is : (nodes : List (Option Node)) (shape : Shape) (pegs : List (Option Edge)) (a : ℕ) (e : Edge) → get_or pegs a None ≡ Some e → on (pegs_of nodes shape pegs) a ≡ chart nodes shape e
on_is nodes shape pegs a e h = ap chart_of (peg_is nodes shape pegs a ∙ ap (peg_chart nodes shape) h)

all_at : (P : Option Edge → Type 0) (pegs : List (Option Edge)) (a : ℕ) (e : Edge) → AllByRecursion P pegs → get_or pegs a None ≡ Some e → P (Some e)
all_at P [] a e f h = absurd (let z : ◌≡◌ {A = ℕ} 0 1 = cc in omega arith)
all_at P (p ∷ ps) zero e f h = subst P h f.0
all_at P (p ∷ ps) (suc a) e f h = all_at P ps a e f.1 h

pub peg_held : (nodes : List (Option Node)) (shape : Shape) (pegs : List (Option Edge)) (a : ℕ) (e : Edge) → Held nodes shape pegs → get_or pegs a None ≡ Some e → peg_fine nodes shape (Some e)
peg_held nodes shape pegs a e held h = all_at (peg_fine nodes shape) pegs a e held.fine h

pub pegs_joinable : (op : Op) (nodes : List (Option Node)) (shape : Shape) (pegs : List (Option Edge)) (a b : ℕ) (x y : Edge) → Held nodes shape pegs → get_or pegs a None ≡ Some x → get_or pegs b None ≡ Some y → some late (zipped (entry op) (on (pegs_of nodes shape pegs) a) (on (pegs_of nodes shape pegs) b)) ≡ false → Joinable op nodes shape 0 x y
pegs_joinable op nodes shape pegs a b x y held ha hb t =
    let fx = peg_held nodes shape pegs a x held ha in
    let fy = peg_held nodes shape pegs b y held hb in
    let p = on_is nodes shape pegs a x ha in
    let q = on_is nodes shape pegs b y hb in
    record { left = record { fine = fx.0; timely = fx.1 }; right = record { fine = fy.0; timely = fy.1 }; timely = ap (some late) (sym (λ i. zipped (entry op) (p i) (q i))) ∙ t }

pub joined_is : (op : Op) (nodes : List (Option Node)) (shape : Shape) (pegs : List (Option Edge)) (a b : ℕ) (x y : Edge) → get_or pegs a None ≡ Some x → get_or pegs b None ≡ Some y → goal op nodes shape 0 x y ≡ zipped (entry op) (on (pegs_of nodes shape pegs) a) (on (pegs_of nodes shape pegs) b)
joined_is op nodes shape pegs a b x y ha hb =
    let p = on_is nodes shape pegs a x ha in
    let q = on_is nodes shape pegs b y hb in
    sym (λ i. zipped (entry op) (p i) (q i))

-- An attempt

owned_more : (nodes : List (Option Node)) (shape : Shape) (c : Chart) (cs : List Chart) → Owned nodes shape cs → Owned nodes shape (c ∷ cs)
owned_more nodes shape c cs o k x h = in_right (name nodes shape k) (parts shape 0 c) (flat_map (parts shape 0) cs) (o k x h)

module _ (old new : List (Option Node)) (shape : Shape) (pegs : List (Option Edge)) (c : Chart) (held : Held old shape pegs) (g : Grows old new shape 0 c) where
  pub still_held : Held new shape pegs
  still_held = record { ready = ready_after held.ready g; fine = pegs_fine_kept old new shape held.ready.store g.kept pegs held.fine }

  pub still_same : pegs_of new shape pegs ≡ pegs_of old shape pegs
  still_same = pegs_kept old new shape held.ready.store g.kept pegs held.fine

  pub try_full : Stuck new shape 0 c → Owned old shape (charts (pegs_of old shape pegs)) → length old < diagram_fill shape (pegs_of old shape pegs) c
  try_full s owned =
      let cs = charts (pegs_of old shape pegs) in
      let r = overfull old new shape held.ready.store g.store g.kept (c ∷ cs) c (inl refl) (owned_more old shape c cs owned) g.grown s in
      omega (arith, r, g.same)

  module _ (e : Edge) (st : Stands new shape 0 c e) (timely : some late c ≡ false) where
    pub try_held : (t : ℕ) → Held new shape (set pegs t (Some e))
    try_held t = record { ready = still_held.ready; fine = recursion_from_All (peg_fine new shape) (set pegs t (Some e)) (All-set (peg_fine new shape) pegs t (Some e) (st.0, ap (some late) st.1 ∙ timely) (All-from_recursion (peg_fine new shape) pegs still_held.fine)) }

    pub try_same : (t : ℕ) → pegs_of new shape (set pegs t (Some e)) ≡ set (pegs_of old shape pegs) t (Some c)
    try_same t = let p = still_same in let q = ap {B = Option Chart} Some st.1 in map-set (peg_chart new shape) pegs t (Some e) ∙ (λ i. set (p i) t (q i))

    pub try_room : diagram_fill shape (pegs_of old shape pegs) c ≤ length old
    try_room =
        let r = roomy new shape g.store (e ∷ edges_on pegs) (st.0, fine_on new shape pegs still_held.fine) in
        let p = sym (charts_on new shape pegs) ∙ ap charts still_same in
        let q = st.1 in
        let r' = subst (λ (cs : List Chart). parts_of_all shape cs ≤ length new) (λ i. q i ∷ p i) r in
        omega (arith, r', g.same)

-- the second attempt, after collecting
pub told_from : (nodes : List (Option Node)) (shape : Shape) (before after : Pegs) (c : Chart) (target slots : ℕ) (r : Bool) → length nodes ≡ slots → Owned nodes shape (charts before) → Tried nodes shape before after c target r → Told slots shape before after c target r
told_from nodes shape before after c target slots true n owned t = (subst (λ k. diagram_fill shape before c ≤ k) n t.0, t.1)
told_from nodes shape before after c target slots false n owned t = (subst (λ k. k < diagram_fill shape before c) n (t.0 owned), t.1)

-- The chart to be hung

pub put_is : (nodes : List (Option Node)) (shape : Shape) (pegs : List (Option Edge)) (a v d : ℕ) (e : Edge) → get_or pegs a None ≡ Some e → puts_goal nodes shape 0 v d e ≡ put_chart shape v d (on (pegs_of nodes shape pegs) a)
put_is nodes shape pegs a v d e h =
    ap (λ k. put_chart shape k d (chart nodes shape e)) (let z : v - 0 ≡ v = omega arith in z) ∙ ap (put_chart shape v d) (sym (on_is nodes shape pegs a e h))

pub dial_is : (shape : Shape) (v : ℕ) (es : List Time) → dialled shape (v - 0) es ≡ dialled shape v es
dial_is shape v es = ap (λ k. dialled shape k es) (let z : v - 0 ≡ v = omega arith in z)

-- no time of it is late
pub made_timely : (nodes : List (Option Node)) (shape : Shape) (pegs : List (Option Edge)) (task : Task) → Held nodes shape pegs → Allowed shape (pegs_of nodes shape pegs) task → some late (made shape (pegs_of nodes shape pegs) task) ≡ false
made_timely nodes shape pegs (Dial v es) held a = ap (some late) (sym (dial_is shape v es)) ∙ dial_timely shape 0 v es (omega arith) a.0 a.1
made_timely nodes shape pegs (Join op x y) held a = a.2
made_timely nodes shape pegs (Put x v d) held a = go (get_or pegs x None) refl
  where
    go : (p : Option Edge) → get_or pegs x None ≡ p → some late (put_chart shape v d (on (pegs_of nodes shape pegs) x)) ≡ false
    go None h = absurd (carries nodes shape pegs x a.0 h)
    go (Some e) h = goal_timely shape v d (on (pegs_of nodes shape pegs) x) (ap (some late) (on_is nodes shape pegs x e h) ∙ (peg_held nodes shape pegs x e held h).1)
