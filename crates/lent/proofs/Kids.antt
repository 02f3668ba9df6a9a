-- An edge at 0 above the device, once a pair is put, kid by kid. Assumes nothing.
use Rattle.std.proofs.Common.{◌≡◌, ℕ, suc, ◌+◌, ◌-◌, ◌*◌, ◌<◌, ◌≤◌, List, length, get_or, take, drop, set, Some, None, Option, sym, refl, zero-add, ap, ◌∙◌, subst, arith, length-drop}
use Rattle.std.specs.List.{range_with_len, flat_map}
use Rattle.std.proofs.lemmas.List.{drop_more, get_or-take, get_or-drop}
use Rattle.std.proofs.lemmas.List.FromFn.{get_or-range_with_len}
use Rattle.table.specs.Tables.{Kept}
use Rattle.nodes.specs.declared.edge.Edge.{Edge}
use Rattle.nodes.specs.declared.node.Node.{Node}
use Rattle.model.specs.Charts.{Time, Chart, plus, put_chart, late}
use Rattle.model.specs.Lists.{some}
use Rattle.model.specs.Scenes.{Shape, size}
use Rattle.model.proofs.Charting.{put_length}
use Rattle.parts.proofs.Tabulated.{put_below}
use Rattle.store.specs.Stores.{none_edge, node_at, chart, Fine}
use Rattle.store.specs.Fillings.{Stuck}
use Rattle.store.proofs.Grows.{chart_kept, fine_kept}
use Rattle.build.specs.Builds.{raised, piece, Legal, Makeable, Grows, Built, Made, Partway, together, Stands}
use Rattle.build.proofs.Spreads.{piece_at, made_long}
use Rattle.build.proofs.Sides.{piece_timely, side_formed, side_fine, side_kid}
use Rattle.memo.specs.Results.{Right}
use Rattle.puts.specs.Puts.{goal, at_zero}
use Rattle.puts.proofs.Kids.{key_of}
use Rattle.lent.proofs.Growing.{grows_next, stuck_next, way_next, way_makeable, grows_made, built_made}
use Rattle.lent.proofs.Puts.{Side, whole, whole_timely, lt}

raised_zero : (e : Edge) → raised (Some 0) e ≡ e
raised_zero e = go e.weight refl
  where
    go : (w : Time) → e.weight ≡ w → raised (Some 0) e ≡ e
    go None h = let p : plus (Some 0) e.weight ≡ e.weight = ap (plus (Some 0)) h ∙ sym h in λ i. record { weight = p i; child = e.child }
    go (Some w) h = let p : plus (Some 0) e.weight ≡ e.weight = ap (plus (Some 0)) h ∙ ap {B = Time} Some (omega arith) ∙ sym h in λ i. record { weight = p i; child = e.child }

-- what is known of an edge at 0 above the device; the edge has the child k
pub record Below (nodes : List (Option Node)) (shape : Shape) (l v d k : ℕ) : Type 0 where
  pub below : l < v
  pub side : Side nodes shape l v d (at_zero k) 0

-- what is known while the first i of the n kids are built
pub record Way (nodes mid : List (Option Node)) (shape : Shape) (l v d k n i : ℕ) (kids : List Edge) : Type 0 where
  pub begun : Partway nodes mid shape l (goal nodes shape l v d (at_zero k)) i kids
  pub count : n ≡ get_or shape l 0

module _ {nodes : List (Option Node)} {shape : Shape} {l v d k : ℕ} (s : Below nodes shape l v d k) where
  -- the chart of the edge, and the chart that is to be built
  abbrev given : Chart
  given = chart nodes (drop l shape) (at_zero k)

  abbrev inner : Chart
  inner = whole s.side

  -- as it is remembered
  known_right : (new : List (Option Node)) → Kept nodes new → (r : Edge) → Stands new shape l inner r → Right new shape (key_of l v d k) r
  known_right new kept r st =
      let ns = drop l shape in
      let p = chart_kept nodes new kept shape s.side.ready.store ns l (at_zero k) refl s.side.legal.fine in
      record {
        left = fine_kept nodes new kept ns l (at_zero k) s.side.legal.fine;
        right = fine_kept nodes new kept ns l (at_zero k) s.side.legal.fine;
        stands = (st.0, st.1 ∙ ap (put_chart ns (v - l) d) (sym p));
      }

  -- piece by piece
  abbrev fanned : ℕ → Chart
  fanned j = put_chart (drop (l + 1) shape) (v - (l + 1)) d (piece shape l given j)

  inner_is : inner ≡ flat_map fanned (range_with_len 0 (get_or shape l 0))
  inner_is =
      let ns = drop (l + 1) shape in
      let at = drop_more shape l 0 (lt s.side) in
      let z : v - l ≡ suc (v - (l + 1)) = omega (arith, s.below) in
      let vl : v - (l + 1) < length ns = omega (arith, length-drop (l + 1) shape, s.side.depth, s.below) in
      let dl : d < get_or ns (v - (l + 1)) 0 = subst (λ n. d < n) (sym (get_or-drop (l + 1) shape (v - (l + 1)) 0 ∙ ap (λ j. get_or shape j 0) (let y : l + 1 + (v - (l + 1)) ≡ v = omega (arith, s.below) in y))) s.side.setting in
      (λ i. put_chart (at i) (z i) d given) ∙ put_below (get_or shape l 0) (v - (l + 1)) d ns given vl dl

  fanned_long : (j : ℕ) → length (fanned j) ≡ size (drop (l + 1) shape)
  fanned_long j = put_length (drop (l + 1) shape) (v - (l + 1)) d (piece shape l given j)

  inner_long : length inner ≡ get_or shape l 0 * size (drop (l + 1) shape)
  inner_long = ap length inner_is ∙ made_long shape l fanned fanned_long

  inner_piece : (j : ℕ) → j < get_or shape l 0 → fanned j ≡ piece shape l inner j
  inner_piece j jl = sym (ap (λ c. piece shape l c j) inner_is ∙ piece_at shape l j fanned fanned_long jl ∙ ap fanned (get_or-range_with_len 0 (get_or shape l 0) j 0 jl ∙ zero-add j))

  -- x is the node that the edge leads to
  module _ {x : Node} (here : x ≡ node_at nodes k) where
    kid_chart : (j : ℕ) → j < get_or shape l 0 → chart nodes (drop (l + 1) shape) (get_or x.edges j none_edge) ≡ piece shape l given j
    kid_chart j jl =
        ap (chart nodes (drop (l + 1) shape)) (sym (raised_zero (get_or x.edges j none_edge)))
        ∙ sym (side_kid nodes shape s.side.ready.store l (lt s.side) (at_zero k) 0 x s.side.legal.fine refl here j jl)

    kid_fine : (j : ℕ) → j < get_or shape l 0 → Fine nodes (drop (l + 1) shape) (l + 1) (get_or x.edges j none_edge)
    kid_fine j jl = subst (Fine nodes (drop (l + 1) shape) (l + 1)) (raised_zero (get_or x.edges j none_edge)) (side_fine nodes shape s.side.ready.store l (lt s.side) (at_zero k) 0 x s.side.legal.fine refl here j jl)

    -- the kids one by one, the first i of n
    module _ {mid : List (Option Node)} {n i : ℕ} {kids : List Edge} (p : Way nodes mid shape l v d k n i kids) where
      -- the node has an edge for each of them
      edges_counted : length (take n x.edges) ≡ get_or shape l 0
      edges_counted = ap (λ m. length (take m x.edges)) p.count ∙ (side_formed nodes shape s.side.ready.store l (lt s.side) (at_zero k) 0 x s.side.legal.fine refl here).wide

      module _ (il : i < length (take n x.edges)) where
        abbrev kid : Edge
        kid = get_or (take n x.edges) i none_edge

        within : i < get_or shape l 0
        within = omega (arith, il, edges_counted)

        kid_is : kid ≡ get_or x.edges i none_edge
        kid_is = get_or-take n x.edges i none_edge (omega (arith, within, p.count))

        fine_there : Fine nodes (drop (l + 1) shape) (l + 1) kid
        fine_there = subst (Fine nodes (drop (l + 1) shape) (l + 1)) (sym kid_is) (kid_fine i within)

        next_chart : chart mid (drop (l + 1) shape) kid ≡ piece shape l given i
        next_chart = chart_kept nodes mid p.begun.grows.kept shape s.side.ready.store (drop (l + 1) shape) (l + 1) kid refl fine_there ∙ ap (chart nodes (drop (l + 1) shape)) kid_is ∙ kid_chart i within

        -- what is asked of the kid
        pub next_legal : Legal mid shape (l + 1) kid
        next_legal = record {
          fine = fine_kept nodes mid p.begun.grows.kept (drop (l + 1) shape) (l + 1) kid fine_there;
          timely = ap (some late) next_chart ∙ piece_timely shape l given i s.side.legal.timely;
        }

        -- what it is to have, in the store so far
        abbrev next : Chart
        next = goal mid shape (l + 1) v d kid

        next_is : next ≡ piece shape l inner i
        next_is = ap (put_chart (drop (l + 1) shape) (v - (l + 1)) d) next_chart ∙ inner_piece i within

        module _ (new : List (Option Node)) (g : Grows mid new shape (l + 1) next) where
          pub put_none : (r : Option Edge) → r ≡ None → Stuck new shape (l + 1) next → Made nodes new shape l inner r
          put_none r none t = record {
            grows = grows_next s.side.ready (lt s.side) p.begun within next_is g;
            built = subst (Built new shape l inner) (sym none) (stuck_next s.side.ready (lt s.side) p.begun within next_is g t);
          }

          pub put_more : (made : Edge) → Stands new shape (l + 1) next made → Partway nodes new shape l inner (i + 1) (set kids i made)
          put_more made st = way_next s.side.ready (lt s.side) p.begun within next_is g made st

      -- all of them
      module _ (most : i ≤ length (take n x.edges)) (least : length (take n x.edges) ≤ i) where
        all : i ≡ get_or shape l 0
        all = omega (arith, most, least, edges_counted)

        pub put_makeable : Makeable mid shape l kids
        put_makeable = way_makeable s.side.ready (lt s.side) p.begun all inner_long (whole_timely s.side)

        module _ (new : List (Option Node)) where
          pub put_made : (r : Option Edge) → Made mid new shape l (together mid shape l kids) r → Made nodes new shape l inner r
          put_made r m = record { grows = grows_made s.side.ready (lt s.side) p.begun all inner_long new m.grows; built = built_made s.side.ready (lt s.side) p.begun all inner_long new r m.built }

          pub put_right : (made : Edge) → Made mid new shape l (together mid shape l kids) (Some made) → Right new shape (key_of l v d k) made
          put_right made m =
              let whole = put_made (Some made) m in
              known_right new whole.grows.kept made whole.built
