-- The parts of the charts of edges, and the slots of a store. Assumes nothing.
use Rattle.std.proofs.Common.{◌≡◌, ℕ, ◌+◌, ◌<◌, List, [], ◌∷◌, map, length, take, drop, is_some, Some, Option, sym, refl, ap, ◌∙◌, subst, inl, inr}
use Rattle.std.specs.List.{AllByRecursion, flat_map}
use Rattle.table.specs.Tables.{slot}
use Rattle.nodes.specs.declared.edge.Edge.{Edge}
use Rattle.nodes.specs.declared.node.Node.{Node}
use Rattle.model.specs.Lists.{In}
use Rattle.model.specs.Parts.{Part, parts, same_part}
use Rattle.model.specs.Scenes.{Shape}
use Rattle.std.proofs.lemmas.List.Folds.{flat_map-map}
use Rattle.parts.proofs.Pieces.{all_in, parts_each, in_each, each_in}
use Rattle.parts.proofs.Counts.{in_cast, part_lawful, room, no_room}
use Rattle.store.specs.Stores.{node_in, node_at, chart, body, Leads, Fine, Proper, Store}
use Rattle.store.specs.Fillings.{name_of, name, Roomy, Overfull}
use Rattle.store.proofs.Canon.{tail_of, some_at, led, kids_of, knows_kids, kids_long, body_low, node_known, slot_within}
use Rattle.store.proofs.Grows.{name_kept}

module _ (nodes : List (Option Node)) (shape : Shape) where
  pub name_is : (k l n : ℕ) (ns : Shape) (x : Node) → drop l shape ≡ n ∷ ns → slot nodes k ≡ Some x → x.level ≡ l → name nodes shape k ≡ record { fixed = l; chart = flat_map (chart nodes ns) (take n x.edges) }
  name_is k l n ns x at here deep =
      let p : body nodes (drop x.level shape) x ≡ flat_map (chart nodes ns) (take n x.edges) = ap (λ t. body nodes t x) (ap (λ j. drop j shape) deep ∙ at) in
      ap (λ o. name_of nodes shape (node_in o)) here ∙ (λ i. record { fixed = deep i; chart = p i })

  module _ (store : Store nodes shape) where
    -- the parts of an edge's chart: its node's, and those of its kids
    pub parts_is : (l n : ℕ) (ns : Shape) (e : Edge) → drop l shape ≡ n ∷ ns → Leads nodes n l e → parts (n ∷ ns) l (chart nodes (n ∷ ns) e) ≡ name nodes shape e.child ∷ flat_map (λ x. parts ns (l + 1) (chart nodes ns x)) (take n (node_at nodes e.child).edges)
    parts_is l n ns e at f =
        let x = node_at nodes e.child in
        let es = take n x.edges in
        let known = knows_kids nodes shape store l n ns es at (kids_of nodes shape store l n ns e at f) in
        parts_each (chart nodes ns) n ns l e.weight es (led nodes shape store l n ns e at f).wide (kids_long nodes n ns es known) (f.low ∙ sym (body_low nodes n ns es known))
        ∙ ap (λ p. p ∷ flat_map (λ x. parts ns (l + 1) (chart nodes ns x)) es) (sym (name_is e.child l n ns x at (some_at nodes e.child f.here) f.deep))

    -- every part has a slot
    pub reached : (ns : Shape) (l : ℕ) (e : Edge) → drop l shape ≡ ns → Fine nodes ns l e → (p : Part) → In p (parts ns l (chart nodes ns e)) → (k : ℕ) × (k < length nodes) × (p ≡ name nodes shape k)
    reached [] l e at f p i = absurd i
    reached (n ∷ ns) l e at f p i = go (subst (In p) (parts_is l n ns e at f) i) (λ d g j. reached ns (l + 1) d (tail_of shape l n ns at) g p j)
      where
        go : In p (name nodes shape e.child ∷ flat_map (λ x. parts ns (l + 1) (chart nodes ns x)) (take n (node_at nodes e.child).edges)) → ((d : Edge) → Fine nodes ns (l + 1) d → In p (parts ns (l + 1) (chart nodes ns d)) → (k : ℕ) × (k < length nodes) × (p ≡ name nodes shape k)) → (k : ℕ) × (k < length nodes) × (p ≡ name nodes shape k)
        go (inl h) ih = (e.child, slot_within nodes e.child f.here, h)
        go (inr h) ih =
            let r = in_each (λ x. parts ns (l + 1) (chart nodes ns x)) p (take n (node_at nodes e.child).edges) h in
            ih r.0 (all_in (Fine nodes ns (l + 1)) r.0 (take n (node_at nodes e.child).edges) (kids_of nodes shape store l n ns e at f) r.1) r.2

    same_slots : (i j : ℕ) (x y : Node) (ns : Shape) → slot nodes i ≡ Some x → slot nodes j ≡ Some y → y.level ≡ x.level → drop x.level shape ≡ ns → body nodes ns x ≡ body nodes ns y → Proper nodes ns x → Proper nodes ns y → i ≡ j
    same_slots i j x y [] hx hy d at h px py = absurd px
    same_slots i j x y (n ∷ ns) hx hy d at h px py = store.apart i j x y (slot_within nodes i (ap is_some hx)) (slot_within nodes j (ap is_some hy)) hx hy (node_known nodes shape store x.level n ns x y at refl d px py h)

    -- every slot has a part of its own
    pub names_apart : (i j : ℕ) (x y : Node) → slot nodes i ≡ Some x → slot nodes j ≡ Some y → name nodes shape i ≡ name nodes shape j → i ≡ j
    names_apart i j x y hx hy h =
        let n = sym (ap (λ o. name_of nodes shape (node_in o)) hx) ∙ h ∙ ap (λ o. name_of nodes shape (node_in o)) hy in
        let d = ap (λ p. p.fixed) n in
        let t = ap (λ k. drop k shape) d in
        same_slots i j x y (drop x.level shape) hx hy (sym d) refl (ap (λ p. p.chart) n ∙ ap (λ v. body nodes v y) (sym t)) (store.proper i x hx) (subst (λ v. Proper nodes v y) (sym t) (store.proper j y hy))

-- No room, exactly

reached_all : (nodes : List (Option Node)) (shape : Shape) → Store nodes shape → (edges : List Edge) → AllByRecursion (Fine nodes shape 0) edges → (p : Part) → In p (flat_map (parts shape 0) (map (chart nodes shape) edges)) → (k : ℕ) × (k < length nodes) × (p ≡ name nodes shape k)
reached_all nodes shape store edges fine p i =
    let r = in_each (λ e. parts shape 0 (chart nodes shape e)) p edges (subst (In p) (flat_map-map (parts shape 0) (chart nodes shape) edges) i) in
    reached nodes shape store shape 0 r.0 refl (all_in (Fine nodes shape 0) r.0 edges fine r.1) p r.2

pub roomy : Roomy
roomy nodes shape store edges fine = room same_part part_lawful (name nodes shape) (length nodes) (flat_map (parts shape 0) (map (chart nodes shape) edges)) (reached_all nodes shape store edges fine)

pub overfull : Overfull
overfull old new shape before after kept charts c here owned grown stuck =
    no_room same_part part_lawful (name new shape) (length new) (flat_map (parts shape 0) charts)
    (λ i j il jl h. names_apart new shape after i j (node_at new i) (node_at new j) (some_at new i (stuck.taken i il)) (some_at new j (stuck.taken j jl)) h)
    inside stuck.part (each_in (parts shape 0) stuck.part c charts here stuck.within) stuck.away
  where
    inside : (i : ℕ) → i < length new → In (name new shape i) (flat_map (parts shape 0) charts)
    inside i il =
        let x = node_at new i in
        elim (grown i x (some_at new i (stuck.taken i il))) [
          | inl h ↦ in_cast (name old shape i) (name new shape i) (flat_map (parts shape 0) charts) (name_kept old new kept shape before i x h) (owned i x h)
          | inr h ↦ each_in (parts shape 0) (name new shape i) c charts here h
        ]
