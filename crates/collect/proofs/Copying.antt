-- The steps of copying: an edge, the kids of its node in a store that grows, and what is noted. Assumes nothing.
use Rattle.std.proofs.Common.{◌≡◌, ℕ, zero, suc, ◌+◌, ◌*◌, ◌<◌, ◌≤◌, false, List, [], ◌∷◌, length, get_or, take, drop, set, Some, None, Option, sym, refl, ap, ◌∙◌, subst, inl, inr, arith}
use Rattle.std.specs.List.{AllByRecursion, flat_map}
use Rattle.std.proofs.lemmas.Bool.{cases_eq}
use Rattle.std.proofs.lemmas.List.{drop_more, get_or-map, get_or-set_same, get_or-set_other}
use Rattle.table.specs.Tables.{slot, Kept}
use Rattle.nodes.specs.declared.edge.Edge.{Edge}
use Rattle.nodes.specs.declared.node.Node.{Node}
use Rattle.model.specs.Charts.{Time, Chart, plus, late}
use Rattle.model.specs.Lists.{In, some}
use Rattle.model.specs.Parts.{least, lowered, parts, pieces}
use Rattle.model.specs.Scenes.{Shape, size}
use Rattle.model.proofs.Lateness.{late_tells}
use Rattle.parts.specs.Shifts.{later, zeroed}
use Rattle.parts.proofs.Pieces.{pieces_each, all_in, parts_back, lowered_zeroed}
use Rattle.store.specs.Stores.{none_edge, node_at, chart, body, below, highest, Leads, Fine, Formed, Store}
use Rattle.store.specs.Fillings.{Stuck}
use Rattle.store.proofs.Canon.{Known, led, kids_of, knows, knows_kids, kids_long, body_long, body_low, body_high, lowered_is}
use Rattle.store.proofs.Grows.{fine_kept, chart_kept}
use Rattle.build.specs.Builds.{Makeable, piece, together, Stands}
use Rattle.build.specs.Grew.{nodes_in, shape_in, Grew, Begun}
use Rattle.build.specs.declared.node_store.NodeStore.{NodeStore}
use Rattle.build.proofs.Highs.{late_left, late_right}
use Rattle.build.proofs.Makes.{late_less, highest_never}
use Rattle.build.proofs.Steps.{get_or_in, stuck_wider}
use Rattle.build.proofs.Grown.{grew_alike, grew_next, stuck_next, begun_next, begun_makeable, grew_made, built_made}
use Rattle.collect.specs.Copies.{Noted, Moved}

-- What is late

-- an edge's node has no late time, if its chart has none
pub below_timely : (nodes : List (Option Node)) (shape : Shape) → Store nodes shape → (ns : Shape) (l : ℕ) (e : Edge) → drop l shape ≡ ns → Fine nodes ns l e → late (plus e.weight (below nodes ns e)) ≡ false → late (below nodes ns e) ≡ false
below_timely nodes shape store ns l e at f h = go e.weight refl h
  where
    never : (ts : Shape) → drop l shape ≡ ts → Fine nodes ts l e → e.weight ≡ None → late (below nodes ts e) ≡ false
    never [] at f none = refl
    never (n ∷ ts) at f none = ap late ((led nodes shape store l n ts e at f).high ∙ highest_never nodes ts (take n (node_at nodes e.child).edges) (sym f.low ∙ ap zeroed none))

    go : (w : Time) → e.weight ≡ w → late (plus e.weight (below nodes ns e)) ≡ false → late (below nodes ns e) ≡ false
    go None none h = never ns at f none
    go (Some v) is h = late_less v (below nodes ns e) (ap (λ u. late (plus u (below nodes ns e))) (sym is) ∙ h)

pub chart_below : (nodes : List (Option Node)) (shape : Shape) → Store nodes shape → (l : ℕ) (e : Edge) → Fine nodes (drop l shape) l e → some late (chart nodes (drop l shape) e) ≡ false → late (below nodes (drop l shape) e) ≡ false
chart_below nodes shape store l e f h =
    below_timely nodes shape store (drop l shape) l e refl f (ap late (sym (knows nodes shape store (drop l shape) l e refl f).high) ∙ sym (late_tells (chart nodes (drop l shape) e)) ∙ h)

highest_at : (nodes : List (Option Node)) (ns : Shape) (es : List Edge) (k : ℕ) → k < length es → late (highest nodes ns es) ≡ false → late (plus (get_or es k none_edge).weight (below nodes ns (get_or es k none_edge))) ≡ false
highest_at nodes ns [] k l h = absurd (omega arith)
highest_at nodes ns (e ∷ es) zero l h = late_left (plus e.weight (below nodes ns e)) (highest nodes ns es) h
highest_at nodes ns (e ∷ es) (suc k) l h = highest_at nodes ns es k (omega arith) (late_right (plus e.weight (below nodes ns e)) (highest nodes ns es) h)

-- An edge to be copied

-- an edge to be copied, at a level that a device remains for
pub record Side (source : List (Option Node)) (shape : Shape) (l : ℕ) (e : Edge) : Type 0 where
  pub store : Store source shape
  pub lt : l < length shape
  pub fine : Fine source (drop l shape) l e

pub side_at : {source : List (Option Node)} {shape : Shape} (l : ℕ) (e : Edge) → Store source shape → l < length shape → Fine source (drop l shape) l e → Side source shape l e
side_at l e store lt fine = record { store = store; lt = lt; fine = fine }

-- such an edge, the node that it leads to, and that none of its times is late
pub record Turn (source : List (Option Node)) (shape : Shape) (l : ℕ) (e : Edge) (x : Node) : Type 0 where
  pub side : Side source shape l e
  pub node : x ≡ node_at source e.child
  pub timely : late (below source (drop l shape) e) ≡ false

-- in the same slots later
pub turn_at : {now source : List (Option Node)} {shape : Shape} {x : Node} (l : ℕ) (e : Edge) → now ≡ source → Store source shape → l < length shape → Fine source (drop l shape) l e → x ≡ node_at source e.child → late (below source (drop l shape) e) ≡ false → Turn now shape l e x
turn_at {now} {source} {shape} {x} l e same store lt fine node timely = subst (λ s. Turn s shape l e x) (sym same) (record { side = side_at l e store lt fine; node = node; timely = timely })

-- what stands at a setting of the device
pub record Item (source : List (Option Node)) (shape : Shape) (l : ℕ) (e : Edge) (i : ℕ) (kid : Edge) : Type 0 where
  pub below : i < get_or shape l 0
  pub is : kid ≡ get_or (take (get_or shape l 0) (node_at source e.child).edges) i none_edge

-- the chart of the edge's node, which the loop builds
abbrev pub aim : List (Option Node) → Shape → ℕ → Edge → Chart
aim source shape l e = body source (drop l shape) (node_at source e.child)

module _ {source : List (Option Node)} {shape : Shape} {l : ℕ} {e : Edge} (side : Side source shape l e) where
  leads : Leads source (get_or shape l 0) l e
  leads = subst (λ t. Fine source t l e) (drop_more shape l 0 side.lt) side.fine

  abbrev sides : List Edge
  sides = take (get_or shape l 0) (node_at source e.child).edges

  formed : Formed source (get_or shape l 0) (drop (l + 1) shape) (node_at source e.child)
  formed = led source shape side.store l (get_or shape l 0) (drop (l + 1) shape) e (drop_more shape l 0 side.lt) leads

  all_kids : AllByRecursion (Fine source (drop (l + 1) shape) (l + 1)) sides
  all_kids = kids_of source shape side.store l (get_or shape l 0) (drop (l + 1) shape) e (drop_more shape l 0 side.lt) leads

  known : AllByRecursion (Known source (drop (l + 1) shape)) sides
  known = knows_kids source shape side.store l (get_or shape l 0) (drop (l + 1) shape) sides (drop_more shape l 0 side.lt) all_kids

  aim_is : aim source shape l e ≡ flat_map (chart source (drop (l + 1) shape)) sides
  aim_is = ap (λ t. body source t (node_at source e.child)) (drop_more shape l 0 side.lt)

  aim_low : zeroed e.weight ≡ least (aim source shape l e)
  aim_low = leads.low ∙ sym (body_low source (get_or shape l 0) (drop (l + 1) shape) sides known) ∙ sym (ap least aim_is)

  aim_long : length (aim source shape l e) ≡ get_or shape l 0 * size (drop (l + 1) shape)
  aim_long = ap length aim_is ∙ body_long source (get_or shape l 0) (drop (l + 1) shape) sides known formed.wide

  most_is : below source (drop l shape) e ≡ (node_at source e.child).most
  most_is = ap (λ t. below source t e) (drop_more shape l 0 side.lt)

  aim_timely : late (below source (drop l shape) e) ≡ false → some late (aim source shape l e) ≡ false
  aim_timely h = ap (some late) aim_is ∙ late_tells (flat_map (chart source (drop (l + 1) shape)) sides) ∙ ap late (body_high source (get_or shape l 0) (drop (l + 1) shape) sides known ∙ sym formed.high ∙ sym most_is) ∙ h

  chart_is : chart source (drop l shape) e ≡ later e.weight (aim source shape l e)
  chart_is = subst (λ t. chart source t e ≡ later e.weight (body source t (node_at source e.child))) (sym (drop_more shape l 0 side.lt)) refl

  same_parts : parts (drop l shape) l (aim source shape l e) ≡ parts (drop l shape) l (chart source (drop l shape) e)
  same_parts = sym (parts_back (drop l shape) l e.weight (aim source shape l e) aim_low) ∙ ap (parts (drop l shape) l) (sym chart_is)

  -- how many settings the loop has passed, at its end
  pub all_passed : {n : ℕ} {x : Node} (i : ℕ) → n ≡ get_or shape l 0 → x ≡ node_at source e.child → length (take n x.edges) ≤ i → i ≤ length (take n x.edges) → i ≡ get_or shape l 0
  all_passed i hn hx low high =
      let long = (λ j. length (take (hn j) (hx j).edges)) ∙ formed.wide in
      omega arith

  -- the edge at a setting
  pub item_at : {n : ℕ} {x : Node} (i : ℕ) → n ≡ get_or shape l 0 → x ≡ node_at source e.child → i < length (take n x.edges) → Item source shape l e i (get_or (take n x.edges) i none_edge)
  item_at i hn hx il =
      let long = (λ j. length (take (hn j) (hx j).edges)) ∙ formed.wide in
      record { below = omega arith; is = λ j. get_or (take (hn j) (hx j).edges) i none_edge }

  module _ {k : ℕ} {kid : Edge} (item : Item source shape l e k kid) where
    within : k < length sides
    within = omega (arith, item.below, formed.wide)

    kid_fine : Fine source (drop (l + 1) shape) (l + 1) kid
    kid_fine =
        let fine = Fine source (drop (l + 1) shape) (l + 1) in
        subst fine (sym item.is) (all_in fine (get_or sides k none_edge) sides all_kids (get_or_in sides k none_edge within))

    kid_timely : late (below source (drop l shape) e) ≡ false → late (below source (drop (l + 1) shape) kid) ≡ false
    kid_timely h =
        let ns = drop (l + 1) shape in
        let t = highest_at source ns sides k within (ap late (sym formed.high ∙ sym most_is) ∙ h) in
        below_timely source shape side.store ns (l + 1) kid refl kid_fine (ap (λ d. late (plus d.weight (below source ns d))) item.is ∙ t)

    kid_piece : chart source (drop (l + 1) shape) kid ≡ piece shape l (aim source shape l e) k
    kid_piece =
        let n = get_or shape l 0 in
        let ns = drop (l + 1) shape in
        sym (ap (λ c. get_or (pieces n (size ns) c) k []) aim_is
        ∙ ap (λ m. get_or (pieces m (size ns) (flat_map (chart source ns) sides)) k []) (sym formed.wide)
        ∙ ap (λ ps. get_or ps k []) (pieces_each (chart source ns) (size ns) sides (kids_long source n ns sides known))
        ∙ get_or-map (chart source ns) sides k none_edge [] within
        ∙ ap (chart source ns) (sym item.is))

  -- the made edge, with the weight of the edge to the node
  copy_stands : {new : List (Option Node)} → Store new shape → (m : Edge) → Stands new shape l (aim source shape l e) m → Stands new shape l (chart source (drop l shape) e) (record { weight = e.weight; child = m.child })
  copy_stands {new} store m st =
      let at = drop_more shape l 0 side.lt in
      let n = get_or shape l 0 in
      let ns = drop (l + 1) shape in
      let f : Leads new n l m = subst (λ t. Fine new t l m) at st.0 in
      let c = aim source shape l e in
      let is : chart new (n ∷ ns) m ≡ c = ap (λ t. chart new t m) (sym at) ∙ st.1 in
      let w : m.weight ≡ zeroed e.weight = sym (knows new shape store (n ∷ ns) l m at f).low ∙ ap least is ∙ sym aim_low in
      let b : flat_map (chart new ns) (take n (node_at new m.child).edges) ≡ c = sym (lowered_is new shape store l n ns m at f) ∙ ap lowered is ∙ lowered_zeroed e.weight c aim_low in
      let r : Leads new n l (record { weight = e.weight; child = m.child }) = record { here = f.here; deep = f.deep; low = sym (twice e.weight) ∙ ap zeroed (sym w) ∙ f.low } in
      subst (λ t. Fine new t l (record { weight = e.weight; child = m.child }) × (chart new t (record { weight = e.weight; child = m.child }) ≡ chart source (drop l shape) e)) (sym at)
      (r, ap (later e.weight) b ∙ sym chart_is)
    where
      twice : (v : Time) → zeroed (zeroed v) ≡ zeroed v
      twice None = refl
      twice (Some v) = refl

-- Notes

moved_kept : (source old new : List (Option Node)) (shape : Shape) (moved : List (Option ℕ)) → Store old shape → Kept old new → Moved source old shape moved → Moved source new shape moved
moved_kept source old new shape moved store kept m k j h l e lt is f =
    let st = m k j h l e lt is f in
    let d : Edge = record { weight = e.weight; child = j } in
    (fine_kept old new kept (drop l shape) l d st.0, chart_kept old new kept shape store (drop l shape) l d refl st.0 ∙ st.1)

-- the level of an edge is that of its node
level_of : (source : List (Option Node)) (shape : Shape) (l : ℕ) (e : Edge) → l < length shape → Fine source (drop l shape) l e → (node_at source e.child).level ≡ l
level_of source shape l e lt f = (subst (λ t. Fine source t l e) (drop_more shape l 0 lt) f).deep

moved_noted : {source nodes : List (Option Node)} {shape : Shape} (before after : List (Option ℕ)) {l : ℕ} {e : Edge} (m : Edge) → Side source shape l e → Store nodes shape → Moved source nodes shape before → Stands nodes shape l (aim source shape l e) m → Noted before after e.child m.child → Moved source nodes shape after
moved_noted {source} {nodes} {shape} before after {l} {e} m side store old st noted k j h k' d lt is f = elim (noted k j h) [ inl q ↦ old k j q k' d lt is f | inr q ↦ go q.0 q.1 ]
  where
    go : k ≡ e.child → j ≡ m.child → Stands nodes shape k' (chart source (drop k' shape) d) (record { weight = d.weight; child = j })
    go p r =
        let same : k' ≡ l = sym (level_of source shape k' d lt f) ∙ ap (λ i. (node_at source i).level) (is ∙ p) ∙ level_of source shape l e side.lt side.fine in
        let there : d.child ≡ e.child = is ∙ p in
        let s : Side source shape l d = record { store = side.store; lt = side.lt; fine = subst (λ i. Fine source (drop i shape) i d) same f } in
        let t = copy_stands s store m (st.0, st.1 ∙ ap (λ i. body source (drop l shape) (node_at source i)) (sym there)) in
        subst (λ i. Stands nodes shape i (chart source (drop i shape) d) (record { weight = d.weight; child = j })) (sym same) (subst (λ c. Stands nodes shape l (chart source (drop l shape) d) (record { weight = d.weight; child = c })) (sym r) t)

pub noted_set : (old : List (Option ℕ)) (i j : ℕ) → i < length old → Noted old (set old i (Some j)) i j
noted_set old i j il k m h = elim (cases_eq k i) [
  | inl e ↦ inr (e, let q : slot (set old i (Some j)) k ≡ Some j = ap (slot (set old i (Some j))) e ∙ get_or-set_same old i (Some j) None il in let z : m ≡ j = cc in z)
  | inr n ↦ inl (sym (get_or-set_other old i k (Some j) None n) ∙ h)
]

-- The loop

-- the first i kids of the node that an edge leads to are copied
pub record Filled (source : List (Option Node)) (first mid : NodeStore) (moved : List (Option ℕ)) (l : ℕ) (e : Edge) (i : ℕ) (kids : List Edge) : Type 0 where
  pub begun : Begun first mid l (aim source (shape_in first) l e) i kids
  pub noted : Moved source (nodes_in mid) (shape_in first) moved

module _ {source : List (Option Node)} {first mid : NodeStore} {moved : List (Option ℕ)} {l : ℕ} {e : Edge} {i : ℕ} {kids : List Edge} (side : Side source (shape_in first) l e) (f : Filled source first mid moved l e i kids) where
  abbrev inner : Chart
  inner = aim source (shape_in first) l e

  abbrev whole : Chart
  whole = chart source (drop l (shape_in first)) e

  whole_grew : (new : NodeStore) → Grew first new l inner → Grew first new l whole
  whole_grew new g = grew_alike first new l inner whole (same_parts side) g

  whole_stuck : (new : NodeStore) → Stuck (nodes_in new) (shape_in first) l inner → Stuck (nodes_in new) (shape_in first) l whole
  whole_stuck new s = stuck_wider (nodes_in new) (shape_in first) l l whole inner (λ p h. subst (In p) (same_parts side) h) s

  -- the next kid
  module _ {kid : Edge} (item : Item source (shape_in first) l e i kid) where
    -- what its copy asks, over a shape
    pub record Next (shape : Shape) : Type 0 where
      pub depth : l + 1 ≤ length shape
      pub fine : Fine source (drop (l + 1) shape) (l + 1) kid
      pub timely : late (below source (drop (l + 1) shape) kid) ≡ false

    pub next_kid : late (below source (drop l (shape_in first)) e) ≡ false → Next (shape_in mid)
    next_kid h = subst Next (sym f.begun.same) (record { depth = omega (arith, side.lt); fine = kid_fine side item; timely = kid_timely side item h })

    abbrev part : Chart
    part = chart source (drop (l + 1) (shape_in mid)) kid

    part_is : part ≡ piece (shape_in first) l inner i
    part_is = ap (λ s. chart source (drop (l + 1) s) kid) f.begun.same ∙ kid_piece side item

    module _ {new : NodeStore} (g : Grew mid new (l + 1) part) where
      pub filled_grew : Grew first new l whole
      filled_grew = whole_grew new (grew_next first mid new l inner i kids side.lt f.begun part item.below part_is g)

      pub filled_stuck : Stuck (nodes_in new) (shape_in mid) (l + 1) part → Stuck (nodes_in new) (shape_in first) l whole
      filled_stuck s = whole_stuck new (stuck_next first mid new l inner i kids side.lt f.begun part item.below part_is g s)

      filled_moved : (after : List (Option ℕ)) → Moved source (nodes_in new) (shape_in mid) after → Moved source (nodes_in new) (shape_in first) after
      filled_moved after m = subst (λ s. Moved source (nodes_in new) s after) f.begun.same m

      pub filled_more : (after : List (Option ℕ)) (d : Edge) → Stands (nodes_in new) (shape_in mid) (l + 1) part d → Moved source (nodes_in new) (shape_in mid) after → Filled source first new after l e (i + 1) (set kids i d)
      filled_more after d st m = record { begun = begun_next first mid new l inner i kids side.lt f.begun part item.below part_is g d st; noted = filled_moved after m }

  -- the node
  module _ (all : i ≡ get_or (shape_in first) l 0) where
    pub filled_makeable : late (below source (drop l (shape_in first)) e) ≡ false → Makeable (nodes_in mid) (shape_in mid) l kids
    filled_makeable h = begun_makeable first mid mid l inner i kids side.lt f.begun inner all (aim_long side) (aim_timely side h)

    module _ {new : NodeStore} (g : Grew mid new l (together (nodes_in mid) (shape_in mid) l kids)) where
      grew_here : Grew first new l inner
      grew_here = grew_made first mid new l inner i kids side.lt f.begun inner all (aim_long side) g

      pub filled_made : Grew first new l whole
      filled_made = whole_grew new grew_here

      pub filled_full : Stuck (nodes_in new) (shape_in mid) l (together (nodes_in mid) (shape_in mid) l kids) → Stuck (nodes_in new) (shape_in first) l whole
      filled_full s = whole_stuck new (built_made first mid new l inner i kids side.lt f.begun inner all (aim_long side) None s)

      pub still_moved : Moved source (nodes_in new) (shape_in first) moved
      still_moved = moved_kept source (nodes_in mid) (nodes_in new) (shape_in first) moved f.begun.way.grows.store g.grows.kept f.noted

      module _ (m : Edge) (st : Stands (nodes_in new) (shape_in mid) l (together (nodes_in mid) (shape_in mid) l kids) m) where
        stands_here : Stands (nodes_in new) (shape_in first) l inner m
        stands_here = built_made first mid new l inner i kids side.lt f.begun inner all (aim_long side) (Some m) st

        pub filled_stands : Stands (nodes_in new) (shape_in first) l whole (record { weight = e.weight; child = m.child })
        filled_stands = copy_stands side grew_here.grows.store m stands_here

        pub filled_noted : (after : List (Option ℕ)) → Noted moved after e.child m.child → Moved source (nodes_in new) (shape_in first) after
        filled_noted after noted = moved_noted moved after m side grew_here.grows.store still_moved stands_here noted
