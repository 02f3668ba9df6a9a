-- The steps of joining two edges with times in lent slots. Assumes nothing.
use Rattle.std.proofs.Common.{◌≡◌, ℕ, ◌+◌, ◌*◌, ◌<◌, false, List, length, get_or, take, drop, set, Some, None, Option, sym, refl, ap, ◌∙◌, subst, arith}
use denote.Ref.{Bor}
use Rattle.std.proofs.iter.Yields.{fronts}
use Rattle.std.proofs.lemmas.Iterator.{zips}
use Rattle.std.proofs.lemmas.List.{get_or-take}
use Rattle.std.specs.Iterator.Adapters.{enumerate_count, enumerate_steps}
use Rattle.std.specs.declared.iter.Enumerate.{Enumerate}
use Rattle.std.specs.declared.iter.Zip.{Zip}
use Rattle.std.specs.declared.slice.Iter.{Iter}
use Rattle.nodes.specs.declared.edge.Edge.{Edge}
use Rattle.nodes.specs.declared.node.Node.{Node}
use Rattle.nodes.specs.declared.remembered.Op.{Op}
use Rattle.nodes.specs.declared.remembered.Operation.TheVariants.{Join}
use Rattle.model.specs.Charts.{Chart, plus, zipped, late}
use Rattle.model.specs.Lists.{some}
use Rattle.model.specs.Parts.{parts}
use Rattle.model.specs.Scenes.{Shape, size}
use Rattle.model.proofs.Charting.{zipped_length}
use Rattle.parts.specs.Shifts.{later}
use Rattle.parts.proofs.Pieces.{parts_later}
use Rattle.store.specs.Stores.{none_edge, node_at, chart, body}
use Rattle.store.specs.Fillings.{Stuck}
use Rattle.store.proofs.Grows.{chart_kept, fine_kept}
use Rattle.build.specs.Builds.{Ready, raised, piece, Legal, Makeable, Grows, Made, Stands, Partway, together}
use Rattle.build.proofs.Steps.{grows_alike}
use Rattle.build.proofs.Sides.{piece_timely, side_formed, side_chart, side_long, side_piece, side_legal, side_timely}
use Rattle.memo.specs.Operations.{entry}
use Rattle.memo.specs.Results.{Right}
use Rattle.apply.specs.Joins.{goal, Joinable}
use Rattle.apply.specs.Splits.{edge_of}
use Rattle.apply.specs.declared.split.TimedEdge.{TimedEdge}
use Rattle.apply.specs.declared.split.Weights.{Weights}
use Rattle.apply.proofs.Pairs.{Ahead, Turn, turn, ended}
use Rattle.apply.proofs.Joining.{Sides, rest_of, whole_is}
use Rattle.apply.proofs.Zips.{zipped_piece}
use Rattle.lent.proofs.Growing.{ready_after, grows_next, stuck_next, way_next, way_makeable, grows_made, built_made}

-- growth by the chart of what is left of two edges is growth by theirs
pub rest_grows : {op : Op} {old : List (Option Node)} {shape : Shape} {l : ℕ} {a b : Edge} {wa wb : ℕ} {ws : Weights} (s : Sides op old shape l a b wa wb ws) (new : List (Option Node)) → Grows old new shape l (goal op old shape l (edge_of (rest_of a ws.left)) (edge_of (rest_of b ws.right))) → Grows old new shape l (goal op old shape l a b)
rest_grows {op} {old} {shape} {l} {a} {b} {wa} {wb} {ws} s new g =
    let inner = goal op old shape l (edge_of (rest_of a ws.left)) (edge_of (rest_of b ws.right)) in
    let same = sym (parts_later (drop l shape) l ws.base inner) ∙ ap (parts (drop l shape) l) (sym (whole_is s)) in
    grows_alike old new shape l inner (goal op old shape l a b) same g

-- Two edges with times to nodes

pub record Pair (op : Op) (old : List (Option Node)) (shape : Shape) (l : ℕ) (x y : TimedEdge) : Type 0 where
  pub ready : Ready old shape
  pub lt : l < length shape
  pub able : Joinable op old shape l (edge_of x) (edge_of y)

pub pair_of : {op : Op} {old : List (Option Node)} {shape : Shape} {l : ℕ} (x y : TimedEdge) → Ready old shape → l < length shape → Joinable op old shape l (edge_of x) (edge_of y) → Pair op old shape l x y
pair_of x y ready lt able = record { ready = ready; lt = lt; able = able }

-- the edges that the two nodes have for a setting, raised, once the kids before it stand
pub record Next (op : Op) (old mid : List (Option Node)) (shape : Shape) (l : ℕ) (x y : TimedEdge) (i : ℕ) (kids : List Edge) (d e : Edge) : Type 0 where
  pub pair : Pair op old shape l x y
  pub below : i < get_or shape l 0
  pub way : Partway old mid shape l (goal op old shape l (edge_of x) (edge_of y)) i kids
  pub left : d ≡ raised (Some x.weight) (get_or (node_at old x.child).edges i none_edge)
  pub right : e ≡ raised (Some y.weight) (get_or (node_at old y.child).edges i none_edge)

-- the first n edges of the node that an edge leads to
abbrev pub edges_of : List (Option Node) → TimedEdge → ℕ → List Edge
edges_of old x n = take n (node_at old x.child).edges

-- those of both, gone through in step
module _ {op : Op} {old : List (Option Node)} {shape : Shape} {l : ℕ} {x y : TimedEdge} (pair : Pair op old shape l x y) {n : ℕ} {s : Enumerate (Zip (Iter Edge) (Iter Edge))} (ahead : Ahead (edges_of old x n) (edges_of old y n) s) (count : n ≡ get_or shape l 0) where
  wide : length (edges_of old x n) ≡ n
  wide = subst (λ m. length (edges_of old x m) ≡ m) (sym count) (side_formed old shape pair.ready.store l pair.lt (edge_of x) x.weight (node_at old x.child) pair.able.left.fine refl refl).wide

  module _ (t : Enumerate (Zip (Iter Edge) (Iter Edge))) {r : Option (ℕ × (Bor Edge × Bor Edge))} where
    pub two_all : r ≡ None → enumerate_steps (zips fronts fronts) s r t → enumerate_count s ≡ get_or shape l 0
    two_all none steps = ended t ahead none steps ∙ wide ∙ count

    module _ {i : ℕ} {p : Bor Edge × Bor Edge} (is : r ≡ Some (i, p)) (steps : enumerate_steps (zips fronts fronts) s r t) where
      pub two : Turn (edges_of old x n) (edges_of old y n) s t i p
      two = turn ahead is steps

      pub two_below : i < get_or shape l 0
      two_below = omega (arith, two.below, wide, count)

      pub two_left : p.0.now ≡ get_or (node_at old x.child).edges i none_edge
      two_left = two.left ∙ get_or-take n (node_at old x.child).edges i none_edge (omega (arith, two_below, count))

      pub two_right : p.1.now ≡ get_or (node_at old y.child).edges i none_edge
      two_right = two.right ∙ get_or-take n (node_at old y.child).edges i none_edge (omega (arith, two_below, count))

      pub next_of : {mid : List (Option Node)} {kids : List Edge} {d e : Edge} → Partway old mid shape l (goal op old shape l (edge_of x) (edge_of y)) (enumerate_count s) kids → d ≡ raised (Some x.weight) p.0.now → e ≡ raised (Some y.weight) p.1.now → Next op old mid shape l x y i kids d e
      next_of {mid} {kids} way hd he = record {
        pair = pair;
        below = two_below;
        way = subst (λ k. Partway old mid shape l (goal op old shape l (edge_of x) (edge_of y)) k kids) (sym two.at) way;
        left = hd ∙ ap (raised (Some x.weight)) two_left;
        right = he ∙ ap (raised (Some y.weight)) two_right;
      }

module _ {op : Op} {old : List (Option Node)} {shape : Shape} {l : ℕ} {x y : TimedEdge} (pair : Pair op old shape l x y) where
  lt : l < length shape
  lt = pair.lt

  able : Joinable op old shape l (edge_of x) (edge_of y)
  able = pair.able

  abbrev aim : Chart
  aim = goal op old shape l (edge_of x) (edge_of y)

  -- as charts of the two nodes
  aim_is : aim ≡ zipped (entry op) (later (Some x.weight) (body old (drop l shape) (node_at old x.child))) (later (Some y.weight) (body old (drop l shape) (node_at old y.child)))
  aim_is =
      let p = side_chart old shape pair.ready.store l lt (edge_of x) x.weight (node_at old x.child) able.left.fine refl refl in
      let q = side_chart old shape pair.ready.store l lt (edge_of y) y.weight (node_at old y.child) able.right.fine refl refl in
      λ i. zipped (entry op) (p i) (q i)

  aim_long : length aim ≡ get_or shape l 0 * size (drop (l + 1) shape)
  aim_long =
      let p = side_long old shape pair.ready.store l lt (edge_of x) x.weight (node_at old x.child) able.left.fine refl refl in
      let q = side_long old shape pair.ready.store l lt (edge_of y) y.weight (node_at old y.child) able.right.fine refl refl in
      ap length aim_is ∙ zipped_length (entry op) (later (Some x.weight) (body old (drop l shape) (node_at old x.child))) (later (Some y.weight) (body old (drop l shape) (node_at old y.child))) (p ∙ sym q) ∙ p

  module _ (i : ℕ) (il : i < get_or shape l 0) where
    abbrev left : Edge
    left = raised (Some x.weight) (get_or (node_at old x.child).edges i none_edge)

    abbrev right : Edge
    right = raised (Some y.weight) (get_or (node_at old y.child).edges i none_edge)

    -- the kids are raised in time
    pub raise_left : late (plus (Some x.weight) (get_or (node_at old x.child).edges i none_edge).weight) ≡ false
    raise_left = side_timely old shape pair.ready.store l lt (edge_of x) x.weight (node_at old x.child) able.left.fine refl refl i il able.left.timely

    pub raise_right : late (plus (Some y.weight) (get_or (node_at old y.child).edges i none_edge).weight) ≡ false
    raise_right = side_timely old shape pair.ready.store l lt (edge_of y) y.weight (node_at old y.child) able.right.fine refl refl i il able.right.timely

    left_kid : Legal old shape (l + 1) left
    left_kid = side_legal old shape pair.ready.store l lt (edge_of x) x.weight (node_at old x.child) able.left.fine refl refl i il able.left.timely

    right_kid : Legal old shape (l + 1) right
    right_kid = side_legal old shape pair.ready.store l lt (edge_of y) y.weight (node_at old y.child) able.right.fine refl refl i il able.right.timely

    kid_goal : goal op old shape (l + 1) left right ≡ piece shape l aim i
    kid_goal =
        let ns = drop (l + 1) shape in
        let p = sym (side_piece old shape pair.ready.store l lt (edge_of x) x.weight (node_at old x.child) able.left.fine refl refl i il) in
        let q = sym (side_piece old shape pair.ready.store l lt (edge_of y) y.weight (node_at old y.child) able.right.fine refl refl i il) in
        (λ j. zipped (entry op) (p j) (q j)) ∙ sym (zipped_piece (entry op) (get_or shape l 0) (size ns) i (later (Some x.weight) (body old (drop l shape) (node_at old x.child))) (later (Some y.weight) (body old (drop l shape) (node_at old y.child)))) ∙ ap (λ c. piece shape l c i) (sym aim_is)

  -- the node
  module _ {mid : List (Option Node)} {kids : List Edge} (way : Partway old mid shape l aim (get_or shape l 0) kids) where
    pub kids_ready : Ready mid shape
    kids_ready = ready_after pair.ready way.grows

    pub kids_makeable : Makeable mid shape l kids
    kids_makeable = way_makeable pair.ready lt way refl aim_long able.timely

    module _ (new : List (Option Node)) where
      pub join_made : (r : Option Edge) → Made mid new shape l (together mid shape l kids) r → Made old new shape l aim r
      join_made r m = record { grows = grows_made pair.ready lt way refl aim_long new m.grows; built = built_made pair.ready lt way refl aim_long new r m.built }

      -- as it is remembered
      pub join_right : (e : Edge) → Made mid new shape l (together mid shape l kids) (Some e) → Right new shape (record { operation = Join op; level = l; left = edge_of x; right = edge_of y }) e
      join_right e m =
          let made = join_made (Some e) m in
          let ns = drop l shape in
          let p = chart_kept old new made.grows.kept shape pair.ready.store ns l (edge_of x) refl able.left.fine in
          let q = chart_kept old new made.grows.kept shape pair.ready.store ns l (edge_of y) refl able.right.fine in
          record {
            left = fine_kept old new made.grows.kept ns l (edge_of x) able.left.fine;
            right = fine_kept old new made.grows.kept ns l (edge_of y) able.right.fine;
            stands = (made.built.0, made.built.1 ∙ sym (λ i. zipped (entry op) (p i) (q i)));
          }

module _ {op : Op} {old mid : List (Option Node)} {shape : Shape} {l : ℕ} {x y : TimedEdge} {i : ℕ} {kids : List Edge} {d e : Edge} (s : Next op old mid shape l x y i kids d e) where
  abbrev rest : Shape
  rest = drop (l + 1) shape

  abbrev whole : Chart
  whole = goal op old shape l (edge_of x) (edge_of y)

  left_legal : Legal old shape (l + 1) (left s.pair i s.below)
  left_legal = left_kid s.pair i s.below

  right_legal : Legal old shape (l + 1) (right s.pair i s.below)
  right_legal = right_kid s.pair i s.below

  left_same : chart mid rest (left s.pair i s.below) ≡ chart old rest (left s.pair i s.below)
  left_same = chart_kept old mid s.way.grows.kept shape s.pair.ready.store rest (l + 1) (left s.pair i s.below) refl left_legal.fine

  right_same : chart mid rest (right s.pair i s.below) ≡ chart old rest (right s.pair i s.below)
  right_same = chart_kept old mid s.way.grows.kept shape s.pair.ready.store rest (l + 1) (right s.pair i s.below) refl right_legal.fine

  goal_same : goal op mid shape (l + 1) (left s.pair i s.below) (right s.pair i s.below) ≡ piece shape l whole i
  goal_same = let p = left_same in let q = right_same in (λ j. zipped (entry op) (p j) (q j)) ∙ kid_goal s.pair i s.below

  joinable_here : Joinable op mid shape (l + 1) (left s.pair i s.below) (right s.pair i s.below)
  joinable_here = record {
    left = record {
      fine = fine_kept old mid s.way.grows.kept rest (l + 1) (left s.pair i s.below) left_legal.fine;
      timely = ap (some late) left_same ∙ left_legal.timely;
    };
    right = record {
      fine = fine_kept old mid s.way.grows.kept rest (l + 1) (right s.pair i s.below) right_legal.fine;
      timely = ap (some late) right_same ∙ right_legal.timely;
    };
    timely = ap (some late) goal_same ∙ piece_timely shape l whole i s.pair.able.timely;
  }

  pub kid_ready : Ready mid shape
  kid_ready = ready_after s.pair.ready s.way.grows

  pub kid_joinable : Joinable op mid shape (l + 1) d e
  kid_joinable =
      let q = sym s.left in
      let r = sym s.right in
      coe 0 1 (j. Joinable op mid shape (l + 1) (q j) (r j)) joinable_here

  -- what the call for a setting is to build is that piece
  kid_is : goal op mid shape (l + 1) d e ≡ piece shape l whole i
  kid_is =
      let q = s.left in
      let r = s.right in
      (λ j. goal op mid shape (l + 1) (q j) (r j)) ∙ goal_same

  module _ {new : List (Option Node)} (g : Grows mid new shape (l + 1) (goal op mid shape (l + 1) d e)) where
    pub join_grows : Grows old new shape l whole
    join_grows = grows_next s.pair.ready s.pair.lt s.way s.below kid_is g

    pub join_stuck : Stuck new shape (l + 1) (goal op mid shape (l + 1) d e) → Stuck new shape l whole
    join_stuck t = stuck_next s.pair.ready s.pair.lt s.way s.below kid_is g t

    pub join_more : (kid : Edge) → Stands new shape (l + 1) (goal op mid shape (l + 1) d e) kid → Partway old new shape l whole (i + 1) (set kids i kid)
    join_more kid st = way_next s.pair.ready s.pair.lt s.way s.below kid_is g kid st
