-- An edge is lifted to a level above its own. Assumes nothing.
use Rattle.std.proofs.Common.{◌≡◌, ℕ, zero, suc, ◌+◌, ◌-◌, ◌<◌, ◌≤◌, false, List, length, get_or, drop, None, Option, sym, ap, ◌∙◌, subst, arith}
use Rattle.std.specs.List.{range_with_len}
use Rattle.std.proofs.lemmas.List.{drop_more}
use Rattle.nodes.specs.declared.edge.Edge.{Edge}
use Rattle.model.specs.Charts.{Time, Chart, dialled, late}
use Rattle.model.specs.Lists.{In, some}
use Rattle.model.specs.Parts.{Part, parts}
use Rattle.model.specs.Scenes.{Shape, size}
use Rattle.store.specs.Stores.{chart, Fine}
use Rattle.store.specs.Fillings.{Stuck}
use Rattle.build.specs.declared.node_store.NodeStore.{NodeStore}
use Rattle.build.specs.Builds.{Legal, Spreadable, Built, Stands, spread_chart}
use Rattle.build.specs.Grew.{nodes_in, shape_in, Grew}
use Rattle.build.proofs.Steps.{piece_parts, stuck_wider}
use Rattle.build.proofs.Spreads.{piece_at, made_long, some_joined}
use Rattle.build.proofs.Grown.{grew_none, grew_then, early_spread, stuck_spread, grew_spread, built_spread}
use Rattle.dials.specs.Flats.{flat, lifted}
use Rattle.dials.proofs.Turns.{flat_spread, dial_spread}

-- A level above

-- what is known of a level once the chart c below it is built, where the chart d is c at each setting of the level's device
pub record Turn (old mid : NodeStore) (l : ℕ) (c d : Chart) : Type 0 where
  pub depth : l < length (shape_in old)
  pub long : length c ≡ size (drop (l + 1) (shape_in old))
  pub timely : some late c ≡ false
  pub is : spread_chart (shape_in old) l c ≡ d
  pub grew : Grew old mid (l + 1) c

module _ {old mid : NodeStore} {l : ℕ} {c d : Chart} (s : Turn old mid l c d) where
  pub turn_early : Grew old mid l d
  turn_early = early_spread old mid l c d s.depth s.long s.is s.grew

  pub turn_none : (r : Option Edge) → r ≡ None → Stuck (nodes_in mid) (shape_in old) (l + 1) c → Built (nodes_in mid) (shape_in old) l d r
  turn_none r none t = subst (Built (nodes_in mid) (shape_in old) l d) (sym none) (stuck_spread old mid l c d s.depth s.long s.is s.grew t)

  module _ (kid : Edge) (st : Stands (nodes_in mid) (shape_in old) (l + 1) c kid) where
    pub turn_spreadable : Spreadable (nodes_in mid) (shape_in mid) l kid
    turn_spreadable = record {
      depth = subst (λ t. l < length t) (sym s.grew.same) s.depth;
      legal = subst (λ t. Legal (nodes_in mid) t (l + 1) kid) (sym s.grew.same) (record { fine = st.0; timely = ap (some late) st.1 ∙ s.timely });
    }

    pub turn_grew : (new : NodeStore) → Grew mid new l (spread_chart (shape_in mid) l (chart (nodes_in mid) (drop (l + 1) (shape_in mid)) kid)) → Grew old new l d
    turn_grew new g = grew_spread old mid l c d s.depth s.long s.is s.grew new kid st.1 g

    pub turn_built : (new : NodeStore) (r : Option Edge) → Built (nodes_in new) (shape_in mid) l (spread_chart (shape_in mid) l (chart (nodes_in mid) (drop (l + 1) (shape_in mid)) kid)) r → Built (nodes_in new) (shape_in old) l d r
    turn_built new r b = built_spread old mid l c d s.depth s.long s.is s.grew new kid st.1 r b

-- Level by level

pub lifted_long : (shape : Shape) (k l : ℕ) (c : Chart) → l + k ≤ length shape → length c ≡ size (drop (l + k) shape) → length (lifted shape l k c) ≡ size (drop l shape)
lifted_long shape zero l c h e = e ∙ ap (λ j. size (drop j shape)) (let z : l + 0 ≡ l = omega arith in z)
lifted_long shape (suc k) l c h e =
    let long = lifted_long shape k (l + 1) c (omega (arith, h)) (e ∙ ap (λ j. size (drop j shape)) (let z : l + suc k ≡ l + 1 + k = omega arith in z)) in
    made_long shape l (λ _. lifted shape (l + 1) k c) (λ _. long) ∙ sym (ap size (drop_more shape l 0 (omega (arith, h))))

pub lifted_timely : (shape : Shape) (k l : ℕ) (c : Chart) → some late c ≡ false → some late (lifted shape l k c) ≡ false
lifted_timely shape zero l c h = h
lifted_timely shape (suc k) l c h = some_joined late (λ _. lifted shape (l + 1) k c) (range_with_len 0 (get_or shape l 0)) (λ _. lifted_timely shape k (l + 1) c h)

lifted_parts : (shape : Shape) → ((j : ℕ) → j < length shape → 1 ≤ get_or shape j 0) → (k l : ℕ) (c : Chart) → l + k ≤ length shape → length c ≡ size (drop (l + k) shape) → (p : Part) → In p (parts (drop (l + k) shape) (l + k) c) → In p (parts (drop l shape) l (lifted shape l k c))
lifted_parts shape one zero l c h e p i = subst (λ j. In p (parts (drop j shape) j c)) (let z : l + 0 ≡ l = omega arith in z) i
lifted_parts shape one (suc k) l c h e p i =
    let z : l + suc k ≡ l + 1 + k = omega arith in
    let lt : l < length shape = omega (arith, h) in
    let within : l + 1 + k ≤ length shape = omega (arith, h) in
    let below = lifted shape (l + 1) k c in
    let here = e ∙ ap (λ j. size (drop j shape)) z in
    piece_parts shape l (spread_chart shape l below) 0 p lt (one l lt) (subst (λ d. In p (parts (drop (l + 1) shape) (l + 1) d)) (sym (piece_at shape l 0 (λ _. below) (λ _. lifted_long shape k (l + 1) c within here) (one l lt))) (lifted_parts shape one k (l + 1) c within here p (subst (λ j. In p (parts (drop j shape) j c)) z i)))

-- a family of charts, each of which is the next at each setting
lifted_is : (shape : Shape) (v : ℕ) (f : ℕ → Chart) → ((l : ℕ) → l < v → spread_chart shape l (f (l + 1)) ≡ f l) → (k l : ℕ) → l + k ≡ v → lifted shape l k (f v) ≡ f l
lifted_is shape v f step zero l e = ap f (let z : v ≡ l = omega (arith, e) in z)
lifted_is shape v f step (suc k) l e = ap (spread_chart shape l) (lifted_is shape v f step k (l + 1) (omega (arith, e))) ∙ step l (omega (arith, e))

pub flat_lifted : (shape : Shape) (l v : ℕ) (w : Time) → l ≤ v → v ≤ length shape → lifted shape l (v - l) (flat (drop v shape) w) ≡ flat (drop l shape) w
flat_lifted shape l v w lv vl = lifted_is shape v (λ j. flat (drop j shape) w) (λ j h. flat_spread shape j w (omega (arith, h, vl))) (v - l) l (omega (arith, lv))

pub dial_lifted : (shape : Shape) (l v : ℕ) (es : List Time) → l ≤ v → v < length shape → lifted shape l (v - l) (dialled (drop v shape) 0 es) ≡ dialled (drop l shape) (v - l) es
dial_lifted shape l v es lv vl =
    let none : 0 ≡ v - v = omega arith in
    ap (λ k. lifted shape l (v - l) (dialled (drop v shape) k es)) none ∙ lifted_is shape v (λ j. dialled (drop j shape) (v - j) es) (λ j h. dial_spread shape j v es h vl) (v - l) l (omega (arith, lv))

-- An edge is built, and then lifted

-- what is known once the chart c is built at the level v, of which d is the lifted chart at the level l
pub record Lift (old mid : NodeStore) (l v : ℕ) (c d : Chart) : Type 0 where
  pub above : l ≤ v
  pub depth : v ≤ length (shape_in old)
  pub long : length c ≡ size (drop v (shape_in old))
  pub timely : some late c ≡ false
  pub is : lifted (shape_in old) l (v - l) c ≡ d
  pub grew : Grew old mid v c

module _ {old mid : NodeStore} {l v : ℕ} {c d : Chart} (s : Lift old mid l v c d) where
  parts_there : (p : Part) → In p (parts (drop v (shape_in old)) v c) → In p (parts (drop l (shape_in old)) l d)
  parts_there p i =
      let shape = shape_in old in
      let z : v ≡ l + (v - l) = omega (arith, s.above) in
      subst (λ x. In p (parts (drop l shape) l x)) s.is (lifted_parts shape old.ready.some (v - l) l c (omega (arith, z, s.depth)) (s.long ∙ ap (λ j. size (drop j shape)) z) p (subst (λ j. In p (parts (drop j shape) j c)) z i))

  pub lift_early : Grew old mid l d
  lift_early = grew_then old old mid l v d c parts_there (grew_none old l d) s.grew

  pub lift_none : (r : Option Edge) → r ≡ None → Stuck (nodes_in mid) (shape_in old) v c → Built (nodes_in mid) (shape_in old) l d r
  lift_none r none t = subst (Built (nodes_in mid) (shape_in old) l d) (sym none) (stuck_wider (nodes_in mid) (shape_in old) l v d c parts_there t)

  module _ (e : Edge) (st : Stands (nodes_in mid) (shape_in old) v c e) where
    abbrev here : Chart
    here = chart (nodes_in mid) (drop v (shape_in mid)) e

    here_is : here ≡ c
    here_is = ap (λ t. chart (nodes_in mid) (drop v t) e) s.grew.same ∙ st.1

    there_is : lifted (shape_in mid) l (v - l) here ≡ d
    there_is = (λ j. lifted (s.grew.same j) l (v - l) (here_is j)) ∙ s.is

    pub lift_legal : Legal (nodes_in mid) (shape_in mid) v e
    lift_legal = record {
      fine = subst (λ t. Fine (nodes_in mid) (drop v t) v e) (sym s.grew.same) st.0;
      timely = ap (some late) here_is ∙ s.timely;
    }

    pub lift_grew : (new : NodeStore) → Grew mid new l (lifted (shape_in mid) l (v - l) here) → Grew old new l d
    lift_grew new g = grew_then old mid new l l d d (λ p i. i) lift_early (subst (Grew mid new l) there_is g)

    pub lift_built : (new : NodeStore) (r : Option Edge) → Built (nodes_in new) (shape_in mid) l (lifted (shape_in mid) l (v - l) here) r → Built (nodes_in new) (shape_in old) l d r
    lift_built new r b =
        let p = s.grew.same in
        let q = there_is in
        coe 0 1 (j. Built (nodes_in new) (p j) l (q j) r) b
