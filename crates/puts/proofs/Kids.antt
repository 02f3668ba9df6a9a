-- An edge at 0 above the device, once a pair is put, kid by kid. Assumes nothing.
use Rattle.std.proofs.Common.{◌≡◌, ℕ, suc, ◌+◌, ◌-◌, ◌*◌, ◌<◌, ◌≤◌, List, length, get_or, take, drop, set, Some, None, Option, sym, refl, zero-add, ap, ◌∙◌, subst, arith, length-drop}
use Rattle.std.specs.List.{range_with_len, flat_map}
use Rattle.std.proofs.lemmas.List.{drop_more, get_or-take, get_or-drop}
use Rattle.std.proofs.lemmas.List.FromFn.{get_or-range_with_len}
use Rattle.table.specs.Tables.{Kept}
use Rattle.nodes.specs.declared.edge.Edge.{Edge}
use Rattle.nodes.specs.declared.node.Node.{Node}
use Rattle.nodes.specs.declared.remembered.Key.{Key}
use Rattle.nodes.specs.declared.remembered.Operation.TheVariants.{Put}
use Rattle.model.specs.Charts.{Time, Chart, plus, put_chart, late}
use Rattle.model.specs.Lists.{some}
use Rattle.model.specs.Scenes.{Shape, size}
use Rattle.model.proofs.Charting.{put_length}
use Rattle.parts.proofs.Tabulated.{put_below}
use Rattle.store.specs.Stores.{none_edge, node_at, chart, Fine}
use Rattle.store.specs.Fillings.{Stuck}
use Rattle.store.proofs.Grows.{chart_kept, fine_kept}
use Rattle.build.specs.declared.node_store.NodeStore.{NodeStore}
use Rattle.build.specs.Builds.{raised, piece, Legal, Makeable, Built, together, Stands}
use Rattle.build.specs.Grew.{nodes_in, shape_in, Grew, Begun}
use Rattle.build.proofs.Grown.{grew_next, stuck_next, begun_next, begun_makeable, grew_made, built_made}
use Rattle.build.proofs.Spreads.{piece_at, made_long}
use Rattle.build.proofs.Sides.{piece_timely, side_formed, side_fine, side_kid}
use Rattle.memo.specs.Results.{Right}
use Rattle.puts.specs.Puts.{goal, at_zero}
use Rattle.puts.proofs.Putting.{Side, whole, whole_timely, lt}

-- what the result for an edge at 0 is remembered under
abbrev pub key_of : ℕ → ℕ → ℕ → ℕ → Key
key_of l v d k = record { operation = Put v d; level = l; left = at_zero k; right = at_zero k }

raised_zero : (e : Edge) → raised (Some 0) e ≡ e
raised_zero e = go e.weight refl
  where
    go : (w : Time) → e.weight ≡ w → raised (Some 0) e ≡ e
    go None h = let p : plus (Some 0) e.weight ≡ e.weight = ap (plus (Some 0)) h ∙ sym h in λ i. record { weight = p i; child = e.child }
    go (Some w) h = let p : plus (Some 0) e.weight ≡ e.weight = ap (plus (Some 0)) h ∙ ap {B = Time} Some (omega arith) ∙ sym h in λ i. record { weight = p i; child = e.child }

-- what is known of an edge at 0 above the device; the edge has the child k
pub record Below (old : NodeStore) (l v d k : ℕ) : Type 0 where
  pub below : l < v
  pub side : Side old l v d (at_zero k) 0

-- what is known while the first i of the n kids are built
pub record Way (old mid : NodeStore) (l v d k n i : ℕ) (kids : List Edge) : Type 0 where
  pub begun : Begun old mid l (goal (nodes_in old) (shape_in old) l v d (at_zero k)) i kids
  pub count : n ≡ get_or (shape_in old) l 0

module _ {old : NodeStore} {l v d k : ℕ} (s : Below old l v d k) where
  abbrev nodes : List (Option Node)
  nodes = nodes_in old

  abbrev shape : Shape
  shape = shape_in old

  -- the chart of the edge, and the chart that is to be built
  abbrev given : Chart
  given = chart nodes (drop l shape) (at_zero k)

  abbrev inner : Chart
  inner = whole s.side

  -- as it is remembered
  known_right : (new : List (Option Node)) → Kept nodes new → (r : Edge) → Stands new shape l inner r → Right new shape (key_of l v d k) r
  known_right new kept r st =
      let ns = drop l shape in
      let p = chart_kept nodes new kept shape old.ready.store ns l (at_zero k) refl s.side.legal.fine in
      record {
        left = fine_kept nodes new kept ns l (at_zero k) s.side.legal.fine;
        right = fine_kept nodes new kept ns l (at_zero k) s.side.legal.fine;
        stands = (st.0, st.1 ∙ ap (put_chart ns (v - l) d) (sym p));
      }

  -- piece by piece
  abbrev fanned : ℕ → Chart
  fanned j = put_chart (drop (l + 1) shape) (v - (l + 1)) d (piece shape l given j)

  inner_is : inner ≡ flat_map fanned (range_with_len 0 (get_or shape l 0))
  inner_is =
      let ns = drop (l + 1) shape in
      let at = drop_more shape l 0 (lt s.side) in
      let z : v - l ≡ suc (v - (l + 1)) = omega (arith, s.below) in
      let vl : v - (l + 1) < length ns = omega (arith, length-drop (l + 1) shape, s.side.depth, s.below) in
      let dl : d < get_or ns (v - (l + 1)) 0 = subst (λ n. d < n) (sym (get_or-drop (l + 1) shape (v - (l + 1)) 0 ∙ ap (λ j. get_or shape j 0) (let y : l + 1 + (v - (l + 1)) ≡ v = omega (arith, s.below) in y))) s.side.setting in
      (λ i. put_chart (at i) (z i) d given) ∙ put_below (get_or shape l 0) (v - (l + 1)) d ns given vl dl

  fanned_long : (j : ℕ) → length (fanned j) ≡ size (drop (l + 1) shape)
  fanned_long j = put_length (drop (l + 1) shape) (v - (l + 1)) d (piece shape l given j)

  inner_long : length inner ≡ get_or shape l 0 * size (drop (l + 1) shape)
  inner_long = ap length inner_is ∙ made_long shape l fanned fanned_long

  inner_piece : (j : ℕ) → j < get_or shape l 0 → fanned j ≡ piece shape l inner j
  inner_piece j jl = sym (ap (λ c. piece shape l c j) inner_is ∙ piece_at shape l j fanned fanned_long jl ∙ ap fanned (get_or-range_with_len 0 (get_or shape l 0) j 0 jl ∙ zero-add j))

  -- x is the node that the edge leads to
  module _ {x : Node} (here : x ≡ node_at nodes k) where
    kid_chart : (j : ℕ) → j < get_or shape l 0 → chart nodes (drop (l + 1) shape) (get_or x.edges j none_edge) ≡ piece shape l given j
    kid_chart j jl =
        ap (chart nodes (drop (l + 1) shape)) (sym (raised_zero (get_or x.edges j none_edge)))
        ∙ sym (side_kid nodes shape old.ready.store l (lt s.side) (at_zero k) 0 x s.side.legal.fine refl here j jl)

    kid_fine : (j : ℕ) → j < get_or shape l 0 → Fine nodes (drop (l + 1) shape) (l + 1) (get_or x.edges j none_edge)
    kid_fine j jl = subst (Fine nodes (drop (l + 1) shape) (l + 1)) (raised_zero (get_or x.edges j none_edge)) (side_fine nodes shape old.ready.store l (lt s.side) (at_zero k) 0 x s.side.legal.fine refl here j jl)

    -- the kids one by one, the first i of n
    module _ {mid : NodeStore} {n i : ℕ} {kids : List Edge} (p : Way old mid l v d k n i kids) where
      -- the node has an edge for each of them
      edges_counted : length (take n x.edges) ≡ get_or shape l 0
      edges_counted = ap (λ m. length (take m x.edges)) p.count ∙ (side_formed nodes shape old.ready.store l (lt s.side) (at_zero k) 0 x s.side.legal.fine refl here).wide

      module _ (il : i < length (take n x.edges)) where
        abbrev kid : Edge
        kid = get_or (take n x.edges) i none_edge

        within : i < get_or shape l 0
        within = omega (arith, il, edges_counted)

        kid_is : kid ≡ get_or x.edges i none_edge
        kid_is = get_or-take n x.edges i none_edge (omega (arith, within, p.count))

        fine_there : Fine nodes (drop (l + 1) shape) (l + 1) kid
        fine_there = subst (Fine nodes (drop (l + 1) shape) (l + 1)) (sym kid_is) (kid_fine i within)

        next_chart : chart (nodes_in mid) (drop (l + 1) shape) kid ≡ piece shape l given i
        next_chart = chart_kept nodes (nodes_in mid) p.begun.way.grows.kept shape old.ready.store (drop (l + 1) shape) (l + 1) kid refl fine_there ∙ ap (chart nodes (drop (l + 1) shape)) kid_is ∙ kid_chart i within

        -- what is asked of the kid
        pub next_legal : Legal (nodes_in mid) (shape_in mid) (l + 1) kid
        next_legal = subst (λ t. Legal (nodes_in mid) t (l + 1) kid) (sym p.begun.same) (record {
          fine = fine_kept nodes (nodes_in mid) p.begun.way.grows.kept (drop (l + 1) shape) (l + 1) kid fine_there;
          timely = ap (some late) next_chart ∙ piece_timely shape l given i s.side.legal.timely;
        })

        -- what it is to have, in the store so far
        abbrev next : Chart
        next = goal (nodes_in mid) (shape_in mid) (l + 1) v d kid

        next_is : next ≡ piece shape l inner i
        next_is = ap (λ t. goal (nodes_in mid) t (l + 1) v d kid) p.begun.same ∙ ap (put_chart (drop (l + 1) shape) (v - (l + 1)) d) next_chart ∙ inner_piece i within

        module _ (new : NodeStore) (g : Grew mid new (l + 1) next) where
          pub put_grew : Grew old new l inner
          put_grew = grew_next old mid new l inner i kids (lt s.side) p.begun next within next_is g

          pub put_stuck : Stuck (nodes_in new) (shape_in mid) (l + 1) next → Stuck (nodes_in new) shape l inner
          put_stuck t = stuck_next old mid new l inner i kids (lt s.side) p.begun next within next_is g t

          pub put_more : (made : Edge) → Stands (nodes_in new) (shape_in mid) (l + 1) next made → Begun old new l inner (i + 1) (set kids i made)
          put_more made st = begun_next old mid new l inner i kids (lt s.side) p.begun next within next_is g made st

      -- all of them
      module _ (most : i ≤ length (take n x.edges)) (least : length (take n x.edges) ≤ i) where
        all : i ≡ get_or shape l 0
        all = omega (arith, most, least, edges_counted)

        pub put_makeable : Makeable (nodes_in mid) (shape_in mid) l kids
        put_makeable = begun_makeable old mid mid l inner i kids (lt s.side) p.begun inner all inner_long (whole_timely s.side)

        module _ {new : NodeStore} (g : Grew mid new l (together (nodes_in mid) (shape_in mid) l kids)) where
          pub made_grew : Grew old new l inner
          made_grew = grew_made old mid new l inner i kids (lt s.side) p.begun inner all inner_long g

          pub made_built : (r : Option Edge) → Built (nodes_in new) (shape_in mid) l (together (nodes_in mid) (shape_in mid) l kids) r → Built (nodes_in new) shape l inner r
          made_built r b = built_made old mid new l inner i kids (lt s.side) p.begun inner all inner_long r b

          pub made_right : (made : Edge) → Stands (nodes_in new) (shape_in mid) l (together (nodes_in mid) (shape_in mid) l kids) made → Right (nodes_in new) (shape_in new) (key_of l v d k) made
          made_right made st = subst (λ t. Right (nodes_in new) t (key_of l v d k) made) (sym made_grew.same) (known_right (nodes_in new) made_grew.grows.kept made (made_built (Some made) st))
