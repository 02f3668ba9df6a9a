-- The steps of copying into lent slots: the kids of an edge's node one by one, and what is noted. Assumes nothing.
use Rattle.std.proofs.Common.{◌≡◌, ℕ, zero, suc, ◌+◌, ◌*◌, ◌<◌, false, List, [], ◌∷◌, length, get_or, take, drop, set, Some, None, Option, sym, refl, ap, ◌∙◌, subst, inl, inr, arith}
use Rattle.std.specs.List.{AllByRecursion, flat_map}
use Rattle.std.proofs.lemmas.List.{drop_more, drop_all, get_or-map}
use Rattle.table.specs.Tables.{Kept}
use Rattle.nodes.specs.declared.edge.Edge.{Edge}
use Rattle.nodes.specs.declared.node.Node.{Node}
use Rattle.model.specs.Charts.{Time, Chart, plus, late}
use Rattle.model.specs.Lists.{In, some}
use Rattle.model.specs.Parts.{least, lowered, parts, pieces}
use Rattle.model.specs.Scenes.{Shape, size}
use Rattle.model.proofs.Lateness.{late_tells}
use Rattle.parts.specs.Shifts.{later, zeroed}
use Rattle.parts.proofs.Pieces.{pieces_each, all_in, parts_back, lowered_zeroed}
use Rattle.store.specs.Stores.{none_edge, node_at, chart, body, below, highest, Leads, Fine, Formed, Store}
use Rattle.store.specs.Fillings.{Stuck}
use Rattle.store.proofs.Canon.{Known, led, kids_of, knows, knows_kids, kids_long, body_long, body_low, body_high, lowered_is}
use Rattle.store.proofs.Grows.{fine_kept, chart_kept}
use Rattle.build.specs.Builds.{Ready, Makeable, Grows, Built, Made, Partway, piece, together, Stands}
use Rattle.build.proofs.Highs.{late_left, late_right}
use Rattle.build.proofs.Steps.{get_or_in, stuck_wider, grows_alike}
use Rattle.collect.specs.Copies.{Noted, Moved}
use Rattle.collect.proofs.Copying.{below_timely, Side, Item, aim}
use Rattle.lent.proofs.Growing.{grows_next, stuck_next, way_next, way_makeable, grows_made, built_made}

-- What is late

highest_at : (nodes : List (Option Node)) (ns : Shape) (es : List Edge) (k : ℕ) → k < length es → late (highest nodes ns es) ≡ false → late (plus (get_or es k none_edge).weight (below nodes ns (get_or es k none_edge))) ≡ false
highest_at nodes ns [] k l h = absurd (omega arith)
highest_at nodes ns (e ∷ es) zero l h = late_left (plus e.weight (below nodes ns e)) (highest nodes ns es) h
highest_at nodes ns (e ∷ es) (suc k) l h = highest_at nodes ns es k (omega arith) (late_right (plus e.weight (below nodes ns e)) (highest nodes ns es) h)

-- An edge to be copied

pub copy_leaf : (source nodes : List (Option Node)) (shape : Shape) (l : ℕ) (e : Edge) → l ≡ length shape → Fine source (drop l shape) l e → Stands nodes shape l (chart source (drop l shape) e) e
copy_leaf source nodes shape l e at f =
    let p = drop_all l shape (omega arith) in
    subst (λ (t : Shape). Fine nodes t l e × (chart nodes t e ≡ chart source t e)) (sym p) (subst (λ (t : Shape). Fine source t l e) p f, refl)

module _ {source : List (Option Node)} {shape : Shape} {l : ℕ} {e : Edge} (side : Side source shape l e) where
  leads : Leads source (get_or shape l 0) l e
  leads = subst (λ t. Fine source t l e) (drop_more shape l 0 side.lt) side.fine

  abbrev sides : List Edge
  sides = take (get_or shape l 0) (node_at source e.child).edges

  formed : Formed source (get_or shape l 0) (drop (l + 1) shape) (node_at source e.child)
  formed = led source shape side.store l (get_or shape l 0) (drop (l + 1) shape) e (drop_more shape l 0 side.lt) leads

  all_kids : AllByRecursion (Fine source (drop (l + 1) shape) (l + 1)) sides
  all_kids = kids_of source shape side.store l (get_or shape l 0) (drop (l + 1) shape) e (drop_more shape l 0 side.lt) leads

  known : AllByRecursion (Known source (drop (l + 1) shape)) sides
  known = knows_kids source shape side.store l (get_or shape l 0) (drop (l + 1) shape) sides (drop_more shape l 0 side.lt) all_kids

  aim_is : aim source shape l e ≡ flat_map (chart source (drop (l + 1) shape)) sides
  aim_is = ap (λ t. body source t (node_at source e.child)) (drop_more shape l 0 side.lt)

  aim_low : zeroed e.weight ≡ least (aim source shape l e)
  aim_low = leads.low ∙ sym (body_low source (get_or shape l 0) (drop (l + 1) shape) sides known) ∙ sym (ap least aim_is)

  aim_long : length (aim source shape l e) ≡ get_or shape l 0 * size (drop (l + 1) shape)
  aim_long = ap length aim_is ∙ body_long source (get_or shape l 0) (drop (l + 1) shape) sides known formed.wide

  most_is : below source (drop l shape) e ≡ (node_at source e.child).most
  most_is = ap (λ t. below source t e) (drop_more shape l 0 side.lt)

  aim_timely : late (below source (drop l shape) e) ≡ false → some late (aim source shape l e) ≡ false
  aim_timely h = ap (some late) aim_is ∙ late_tells (flat_map (chart source (drop (l + 1) shape)) sides) ∙ ap late (body_high source (get_or shape l 0) (drop (l + 1) shape) sides known ∙ sym formed.high ∙ sym most_is) ∙ h

  chart_is : chart source (drop l shape) e ≡ later e.weight (aim source shape l e)
  chart_is = subst (λ t. chart source t e ≡ later e.weight (body source t (node_at source e.child))) (sym (drop_more shape l 0 side.lt)) refl

  same_parts : parts (drop l shape) l (aim source shape l e) ≡ parts (drop l shape) l (chart source (drop l shape) e)
  same_parts = sym (parts_back (drop l shape) l e.weight (aim source shape l e) aim_low) ∙ ap (parts (drop l shape) l) (sym chart_is)

  module _ {k : ℕ} {kid : Edge} (item : Item source shape l e k kid) where
    within : k < length sides
    within = omega (arith, item.below, formed.wide)

    pub kid_fine : Fine source (drop (l + 1) shape) (l + 1) kid
    kid_fine =
        let fine = Fine source (drop (l + 1) shape) (l + 1) in
        subst fine (sym item.is) (all_in fine (get_or sides k none_edge) sides all_kids (get_or_in sides k none_edge within))

    pub kid_timely : late (below source (drop l shape) e) ≡ false → late (below source (drop (l + 1) shape) kid) ≡ false
    kid_timely h =
        let ns = drop (l + 1) shape in
        let t = highest_at source ns sides k within (ap late (sym formed.high ∙ sym most_is) ∙ h) in
        below_timely source shape side.store ns (l + 1) kid refl kid_fine (ap (λ d. late (plus d.weight (below source ns d))) item.is ∙ t)

    kid_piece : chart source (drop (l + 1) shape) kid ≡ piece shape l (aim source shape l e) k
    kid_piece =
        let n = get_or shape l 0 in
        let ns = drop (l + 1) shape in
        sym (ap (λ c. get_or (pieces n (size ns) c) k []) aim_is
        ∙ ap (λ m. get_or (pieces m (size ns) (flat_map (chart source ns) sides)) k []) (sym formed.wide)
        ∙ ap (λ ps. get_or ps k []) (pieces_each (chart source ns) (size ns) sides (kids_long source n ns sides known))
        ∙ get_or-map (chart source ns) sides k none_edge [] within
        ∙ ap (chart source ns) (sym item.is))

  -- the made edge, with the weight of the edge to the node
  copy_stands : {new : List (Option Node)} → Store new shape → (m : Edge) → Stands new shape l (aim source shape l e) m → Stands new shape l (chart source (drop l shape) e) (record { weight = e.weight; child = m.child })
  copy_stands {new} store m st =
      let at = drop_more shape l 0 side.lt in
      let n = get_or shape l 0 in
      let ns = drop (l + 1) shape in
      let f : Leads new n l m = subst (λ t. Fine new t l m) at st.0 in
      let c = aim source shape l e in
      let is : chart new (n ∷ ns) m ≡ c = ap (λ t. chart new t m) (sym at) ∙ st.1 in
      let w : m.weight ≡ zeroed e.weight = sym (knows new shape store (n ∷ ns) l m at f).low ∙ ap least is ∙ sym aim_low in
      let b : flat_map (chart new ns) (take n (node_at new m.child).edges) ≡ c = sym (lowered_is new shape store l n ns m at f) ∙ ap lowered is ∙ lowered_zeroed e.weight c aim_low in
      let r : Leads new n l (record { weight = e.weight; child = m.child }) = record { here = f.here; deep = f.deep; low = sym (twice e.weight) ∙ ap zeroed (sym w) ∙ f.low } in
      subst (λ t. Fine new t l (record { weight = e.weight; child = m.child }) × (chart new t (record { weight = e.weight; child = m.child }) ≡ chart source (drop l shape) e)) (sym at)
      (r, ap (later e.weight) b ∙ sym chart_is)
    where
      twice : (v : Time) → zeroed (zeroed v) ≡ zeroed v
      twice None = refl
      twice (Some v) = refl

-- Notes

moved_kept : (source old new : List (Option Node)) (shape : Shape) (moved : List (Option ℕ)) → Store old shape → Kept old new → Moved source old shape moved → Moved source new shape moved
moved_kept source old new shape moved store kept m k j h l e lt is f =
    let st = m k j h l e lt is f in
    let d : Edge = record { weight = e.weight; child = j } in
    (fine_kept old new kept (drop l shape) l d st.0, chart_kept old new kept shape store (drop l shape) l d refl st.0 ∙ st.1)

-- the level of an edge is that of its node
level_of : (source : List (Option Node)) (shape : Shape) (l : ℕ) (e : Edge) → l < length shape → Fine source (drop l shape) l e → (node_at source e.child).level ≡ l
level_of source shape l e lt f = (subst (λ t. Fine source t l e) (drop_more shape l 0 lt) f).deep

moved_noted : {source nodes : List (Option Node)} {shape : Shape} (before after : List (Option ℕ)) {l : ℕ} {e : Edge} (m : Edge) → Side source shape l e → Store nodes shape → Moved source nodes shape before → Stands nodes shape l (aim source shape l e) m → Noted before after e.child m.child → Moved source nodes shape after
moved_noted {source} {nodes} {shape} before after {l} {e} m side store old st noted k j h k' d lt is f = elim (noted k j h) [ inl q ↦ old k j q k' d lt is f | inr q ↦ go q.0 q.1 ]
  where
    go : k ≡ e.child → j ≡ m.child → Stands nodes shape k' (chart source (drop k' shape) d) (record { weight = d.weight; child = j })
    go p r =
        let same : k' ≡ l = sym (level_of source shape k' d lt f) ∙ ap (λ i. (node_at source i).level) (is ∙ p) ∙ level_of source shape l e side.lt side.fine in
        let there : d.child ≡ e.child = is ∙ p in
        let s : Side source shape l d = record { store = side.store; lt = side.lt; fine = subst (λ i. Fine source (drop i shape) i d) same f } in
        let t = copy_stands s store m (st.0, st.1 ∙ ap (λ i. body source (drop l shape) (node_at source i)) (sym there)) in
        subst (λ i. Stands nodes shape i (chart source (drop i shape) d) (record { weight = d.weight; child = j })) (sym same) (subst (λ c. Stands nodes shape l (chart source (drop l shape) d) (record { weight = d.weight; child = c })) (sym r) t)

-- The loop

-- the first i kids of the node that an edge leads to are copied
pub record Filled (source first mid : List (Option Node)) (shape : Shape) (moved : List (Option ℕ)) (l : ℕ) (e : Edge) (i : ℕ) (kids : List Edge) : Type 0 where
  pub way : Partway first mid shape l (aim source shape l e) i kids
  pub noted : Moved source mid shape moved

module _ {source first mid : List (Option Node)} {shape : Shape} {moved : List (Option ℕ)} {l : ℕ} {e : Edge} {i : ℕ} {kids : List Edge} (ready : Ready first shape) (side : Side source shape l e) (f : Filled source first mid shape moved l e i kids) where
  abbrev whole : Chart
  whole = chart source (drop l shape) e

  whole_made : (new : List (Option Node)) (r : Option Edge) → Grows first new shape l (aim source shape l e) → Stuck new shape l (aim source shape l e) → r ≡ None → Made first new shape l whole r
  whole_made new r g s none = record {
    grows = grows_alike first new shape l (aim source shape l e) whole (same_parts side) g;
    built = subst (Built new shape l whole) (sym none) (stuck_wider new shape l l whole (aim source shape l e) (λ p h. subst (In p) (same_parts side) h) s);
  }

  -- the next kid
  module _ {kid : Edge} (item : Item source shape l e i kid) where
    abbrev part : Chart
    part = chart source (drop (l + 1) shape) kid

    module _ {new : List (Option Node)} (g : Grows mid new shape (l + 1) part) where
      pub filled_none : (r : Option Edge) → r ≡ None → Stuck new shape (l + 1) part → Made first new shape l whole r
      filled_none r none s = whole_made new r (grows_next ready side.lt f.way item.below (kid_piece side item) g) (stuck_next ready side.lt f.way item.below (kid_piece side item) g s) none

      pub filled_more : (after : List (Option ℕ)) (d : Edge) → Stands new shape (l + 1) part d → Moved source new shape after → Filled source first new shape after l e (i + 1) (set kids i d)
      filled_more after d st m = record { way = way_next ready side.lt f.way item.below (kid_piece side item) g d st; noted = m }

  -- the node
  module _ (all : i ≡ get_or shape l 0) where
    pub filled_makeable : late (below source (drop l shape) e) ≡ false → Makeable mid shape l kids
    filled_makeable h = way_makeable ready side.lt f.way all (aim_long side) (aim_timely side h)

    module _ (new : List (Option Node)) where
      pub filled_full : (r : Option Edge) → r ≡ None → Made mid new shape l (together mid shape l kids) None → Made first new shape l whole r
      filled_full r none m = whole_made new r (grows_made ready side.lt f.way all (aim_long side) new m.grows) (built_made ready side.lt f.way all (aim_long side) new None m.built) none

      pub still_moved : (r : Option Edge) → Made mid new shape l (together mid shape l kids) r → Moved source new shape moved
      still_moved r m = moved_kept source mid new shape moved f.way.grows.store m.grows.kept f.noted

      module _ (d : Edge) (m : Made mid new shape l (together mid shape l kids) (Some d)) where
        stands_here : Stands new shape l (aim source shape l e) d
        stands_here = built_made ready side.lt f.way all (aim_long side) new (Some d) m.built

        pub filled_made : Made first new shape l whole (Some (record { weight = e.weight; child = d.child }))
        filled_made = record {
          grows = grows_alike first new shape l (aim source shape l e) whole (same_parts side) (grows_made ready side.lt f.way all (aim_long side) new m.grows);
          built = copy_stands side m.grows.store d stands_here;
        }

        pub filled_noted : (after : List (Option ℕ)) → Noted moved after e.child d.child → Moved source new shape after
        filled_noted after noted = moved_noted moved after d side m.grows.store (still_moved (Some d) m) stands_here noted
