-- Charts with one entry, a dial below its device, and a fan of such charts kid by kid. Assumes nothing.
use Rattle.std.proofs.Common.{◌≡◌, ◌*◌, ℕ, suc, ◌+◌, ◌-◌, ◌<◌, ◌≤◌, Bool, false, ◌||◌, List, [], ◌∷◌, map, length, get_or, take, drop, set, None, Option, sym, refl, zero-add, length-take, ap, ◌∙◌, subst, arith}
use Rattle.std.specs.List.{range_with_len, flat_map}
use Rattle.std.proofs.lemmas.List.{drop_more, drop_all, get_or-take, get_or-drop}
use Rattle.std.proofs.lemmas.List.FromFn.{get_or-range_with_len}
use Rattle.nodes.specs.declared.edge.Edge.{Edge}
use Rattle.nodes.specs.declared.node.Node.{Node}
use Rattle.model.specs.Charts.{Time, Chart, dialled, greatest, late}
use Rattle.model.proofs.Lateness.{late_tells, latest, legal_under}
use Rattle.model.specs.Lists.{some}
use Rattle.model.specs.Scenes.{Shape, scenes, size}
use Rattle.model.proofs.Ranks.{tabulated_length}
use Rattle.parts.proofs.Tabulated.{tabulated_split, dialled_here, dialled_below}
use Rattle.store.specs.Stores.{chart, Fine}
use Rattle.store.specs.Fillings.{Stuck}
use Rattle.build.specs.declared.node_store.NodeStore.{NodeStore}
use Rattle.build.specs.Builds.{Makeable, Built, Stands, together, piece, spread_chart}
use Rattle.build.specs.Grew.{nodes_in, shape_in, Grew, Begun}
use Rattle.build.proofs.Spreads.{piece_at, made_long}
use Rattle.build.proofs.Grown.{grew_next, stuck_next, begun_next, begun_makeable, grew_made, built_made}
use Rattle.dials.specs.Flats.{flat}

-- Charts with one entry

pub flat_long : (ns : Shape) (w : Time) → length (flat ns w) ≡ size ns
flat_long ns w = tabulated_length ns (λ _. w)

some_flat : {A : Type 0} (t : Time → Bool) (w : Time) (xs : List A) → t w ≡ false → some t (map (λ _. w) xs) ≡ false
some_flat t w [] h = refl
some_flat t w (x ∷ xs) h = subst (λ b. (b || some t (map (λ _. w) xs)) ≡ false) (sym h) (some_flat t w xs h)

pub flat_timely : (ns : Shape) (w : Time) → late w ≡ false → some late (flat ns w) ≡ false
flat_timely ns w h = some_flat late w (scenes ns) h

pub flat_leaf : (nodes : List (Option Node)) (shape : Shape) (l : ℕ) (w : Time) → l ≡ length shape → Stands nodes shape l (flat (drop l shape) w) (record { weight = w; child = 0 })
flat_leaf nodes shape l w at = subst (λ (t : Shape). Fine nodes t l (record { weight = w; child = 0 }) × (chart nodes t (record { weight = w; child = 0 }) ≡ flat t w)) (sym (drop_all l shape (omega arith))) (refl, refl)

pub flat_spread : (shape : Shape) (l : ℕ) (w : Time) → l < length shape → spread_chart shape l (flat (drop (l + 1) shape) w) ≡ flat (drop l shape) w
flat_spread shape l w lt = sym (ap (λ t. flat t w) (drop_more shape l 0 lt) ∙ tabulated_split (get_or shape l 0) (drop (l + 1) shape) (λ _. w))

-- A dial below its device

pub dial_long : (ns : Shape) (v : ℕ) (es : List Time) → length (dialled ns v es) ≡ size ns
dial_long ns v es = tabulated_length ns (λ s. get_or es (get_or s v 0) None)

pub dial_spread : (shape : Shape) (l v : ℕ) (es : List Time) → l < v → v < length shape → spread_chart shape l (dialled (drop (l + 1) shape) (v - (l + 1)) es) ≡ dialled (drop l shape) (v - l) es
dial_spread shape l v es lv vl =
    let e : v - l ≡ suc (v - (l + 1)) = omega arith in
    sym ((λ i. dialled (drop_more shape l 0 (omega arith) i) (e i) es) ∙ dialled_below (get_or shape l 0) (v - (l + 1)) (drop (l + 1) shape) es)

pub dial_timely : (shape : Shape) (l v : ℕ) (es : List Time) → l ≤ v → v < length shape → some late (take (get_or shape v 0) es) ≡ false → some late (dialled (drop l shape) (v - l) es) ≡ false
dial_timely shape l v es lv vl h =
    let ns = drop l shape in
    let vl' : v - l < length ns = omega (arith, lib.ListN.length-drop l shape) in
    let same : get_or ns (v - l) 0 ≡ get_or shape v 0 = get_or-drop l shape (v - l) 0 ∙ ap (λ k. get_or shape k 0) (let z : l + (v - l) ≡ v = omega arith in z) in
    legal_under (dialled ns (v - l) es) (greatest (take (get_or ns (v - l) 0) es)) (latest.of_dialled ns (v - l) es vl')
    (ap (λ n. late (greatest (take n es))) same ∙ sym (late_tells (take (get_or shape v 0) es)) ∙ h)

-- At the device

abbrev pub fanned : Shape → ℕ → List Time → ℕ → Chart
fanned shape l es x = flat (drop (l + 1) shape) (get_or es x None)

fan_is : (shape : Shape) (l : ℕ) (es : List Time) → l < length shape → dialled (drop l shape) 0 es ≡ flat_map (fanned shape l es) (range_with_len 0 (get_or shape l 0))
fan_is shape l es lt = ap (λ t. dialled t 0 es) (drop_more shape l 0 lt) ∙ dialled_here (get_or shape l 0) (drop (l + 1) shape) es

-- what is known while the kids of a fan are built, one for each of the device's n settings
pub record Fan (old mid : NodeStore) (l : ℕ) (es : List Time) (n i : ℕ) (kids : List Edge) : Type 0 where
  pub depth : l < length (shape_in old)
  pub begun : Begun old mid l (dialled (drop l (shape_in old)) 0 es) i kids
  pub count : n ≡ get_or (shape_in old) l 0
  pub eight : length es ≡ 8

module _ {old mid : NodeStore} {l : ℕ} {es : List Time} {n i : ℕ} {kids : List Edge} (s : Fan old mid l es n i kids) where
  abbrev whole : Chart
  whole = dialled (drop l (shape_in old)) 0 es

  abbrev next : ℕ → Chart
  next j = flat (drop (l + 1) (shape_in mid)) (get_or (take n es) j None)

  all_counted : length (take n es) ≡ get_or (shape_in old) l 0
  all_counted = omega (arith, length-take n es, s.eight, s.count, old.ready.few l)

  -- one kid more
  module _ (new : NodeStore) (il : i < length (take n es)) (g : Grew mid new (l + 1) (next i)) where
    within : i < get_or (shape_in old) l 0
    within = omega (arith, il, all_counted)

    next_is : next i ≡ piece (shape_in old) l whole i
    next_is =
        let shape = shape_in old in
        (λ j. flat (drop (l + 1) (s.begun.same j)) (get_or-take n es i None (omega (arith, within, s.count)) j))
        ∙ sym (ap (λ c. piece shape l c i) (fan_is shape l es s.depth) ∙ piece_at shape l i (fanned shape l es) (λ x. flat_long (drop (l + 1) shape) (get_or es x None)) within
        ∙ ap (fanned shape l es) (get_or-range_with_len 0 (get_or shape l 0) i 0 within ∙ zero-add i))

    pub fan_grew : Grew old new l whole
    fan_grew = grew_next old mid new l whole i kids s.depth s.begun (next i) within next_is g

    pub fan_none : (r : Option Edge) → r ≡ None → Stuck (nodes_in new) (shape_in mid) (l + 1) (next i) → Built (nodes_in new) (shape_in old) l whole r
    fan_none r none t = subst (Built (nodes_in new) (shape_in old) l whole) (sym none) (stuck_next old mid new l whole i kids s.depth s.begun (next i) within next_is g t)

    pub fan_more : (kid : Edge) → Stands (nodes_in new) (shape_in mid) (l + 1) (next i) kid → Begun old new l whole (i + 1) (set kids i kid)
    fan_more kid st = begun_next old mid new l whole i kids s.depth s.begun (next i) within next_is g kid st

  -- all of them
  module _ (most : i ≤ length (take n es)) (least : length (take n es) ≤ i) where
    all : i ≡ get_or (shape_in old) l 0
    all = omega (arith, most, least, all_counted)

    long : length whole ≡ get_or (shape_in old) l 0 * size (drop (l + 1) (shape_in old))
    long =
        let shape = shape_in old in
        ap length (fan_is shape l es s.depth) ∙ made_long shape l (fanned shape l es) (λ x. flat_long (drop (l + 1) shape) (get_or es x None))

    pub fan_makeable : some late (take (get_or (shape_in old) l 0) es) ≡ false → Makeable (nodes_in mid) (shape_in mid) l kids
    fan_makeable h =
        let z : 0 ≡ l - l = omega arith in
        begun_makeable old mid mid l whole i kids s.depth s.begun whole all long (ap (λ k. some late (dialled (drop l (shape_in old)) k es)) z ∙ dial_timely (shape_in old) l l es (omega arith) s.depth h)

    module _ (new : NodeStore) where
      pub made_grew : Grew mid new l (together (nodes_in mid) (shape_in mid) l kids) → Grew old new l whole
      made_grew g = grew_made old mid new l whole i kids s.depth s.begun whole all long g

      pub made_built : (r : Option Edge) → Built (nodes_in new) (shape_in mid) l (together (nodes_in mid) (shape_in mid) l kids) r → Built (nodes_in new) (shape_in old) l whole r
      made_built r b = built_made old mid new l whole i kids s.depth s.begun whole all long r b
