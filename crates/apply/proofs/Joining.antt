-- The steps of joining two edges with times. Assumes nothing.
use Rattle.std.proofs.Common.{◌≡◌, ℕ, ◌+◌, ◌*◌, ◌<◌, ◌≤◌, false, List, length, get_or, take, drop, set, Some, None, Option, sym, refl, ap, ◌∙◌, subst, arith}
use denote.Ref.{Bor}
use Rattle.std.proofs.iter.Yields.{fronts}
use Rattle.std.proofs.lemmas.Iterator.{zips}
use Rattle.std.proofs.lemmas.List.{get_or-take}
use Rattle.std.specs.Iterator.Adapters.{enumerate_count, enumerate_steps}
use Rattle.std.specs.declared.iter.Enumerate.{Enumerate}
use Rattle.std.specs.declared.iter.Zip.{Zip}
use Rattle.std.specs.declared.slice.Iter.{Iter}
use Rattle.nodes.specs.declared.edge.Edge.{Edge}
use Rattle.nodes.specs.declared.node.Node.{Node}
use Rattle.nodes.specs.declared.remembered.Op.{Op}
use Rattle.nodes.specs.declared.remembered.Operation.TheVariants.{Join}
use Rattle.model.specs.Charts.{Chart, plus, zipped, late}
use Rattle.model.specs.Lists.{In, some}
use Rattle.model.specs.Parts.{parts}
use Rattle.model.specs.Scenes.{Shape, size}
use Rattle.model.proofs.Charting.{zipped_length}
use Rattle.parts.specs.Shifts.{later}
use Rattle.parts.proofs.Pieces.{parts_later}
use Rattle.store.specs.Stores.{none_edge, node_at, chart, body, Store}
use Rattle.store.specs.Fillings.{Stuck}
use Rattle.store.proofs.Grows.{chart_kept, fine_kept}
use Rattle.build.specs.Builds.{raised, piece, Legal, Makeable, Built, Stands, together}
use Rattle.build.specs.Grew.{nodes_in, shape_in, Grew, Begun}
use Rattle.build.specs.declared.node_store.NodeStore.{NodeStore}
use Rattle.build.proofs.Grown.{grew_alike, grew_next, stuck_next, begun_next, begun_makeable, grew_made, built_made}
use Rattle.build.proofs.Steps.{stuck_wider}
use Rattle.build.proofs.Sides.{piece_timely, lower_timely, earlier_timely, moved_fine, from_zero, raise_timely, raise_stands, side_formed, side_chart, side_long, side_piece, side_legal, side_timely}
use Rattle.memo.specs.Operations.{entry}
use Rattle.memo.specs.Results.{Right}
use Rattle.apply.specs.Joins.{goal, Joinable}
use Rattle.apply.specs.Splits.{edge_of, split_of}
use Rattle.apply.specs.declared.split.TimedEdge.{TimedEdge}
use Rattle.apply.specs.declared.split.Weights.{Weights}
use Rattle.apply.proofs.Pairs.{Ahead, Turn, turn, ended}
use Rattle.apply.proofs.Zips.{zipped_piece, split_zip, split_left, split_right}

-- What is left of two edges

-- an edge with what is left of its weight
abbrev pub rest_of : Edge → ℕ → TimedEdge
rest_of e v = record { weight = v; child = e.child }

-- two edges with times, and these as what they have in common and what is left
pub record Sides (op : Op) (nodes : List (Option Node)) (shape : Shape) (l : ℕ) (a b : Edge) (wa wb : ℕ) (ws : Weights) : Type 0 where
  pub able : Joinable op nodes shape l a b
  pub ha : a.weight ≡ Some wa
  pub hb : b.weight ≡ Some wb
  pub hw : ws ≡ split_of op wa wb

pub sides_of : {op : Op} {nodes : List (Option Node)} {shape : Shape} {l : ℕ} {a b : Edge} {wa wb : ℕ} {ws : Weights} → Joinable op nodes shape l a b → a.weight ≡ Some wa → b.weight ≡ Some wb → ws ≡ split_of op wa wb → Sides op nodes shape l a b wa wb ws
sides_of able ha hb hw = record { able = able; ha = ha; hb = hb; hw = hw }

module _ {op : Op} {nodes : List (Option Node)} {shape : Shape} {l : ℕ} {a b : Edge} {wa wb : ℕ} {ws : Weights} (s : Sides op nodes shape l a b wa wb ws) where
  -- the chart of what is left
  abbrev inner : Chart
  inner = goal op nodes shape l (edge_of (rest_of a ws.left)) (edge_of (rest_of b ws.right))

  pub whole_is : goal op nodes shape l a b ≡ later (Some ws.base) inner
  whole_is =
      let ns = drop l shape in
      let A = chart nodes ns (edge_of (rest_of a 0)) in
      let B = chart nodes ns (edge_of (rest_of b 0)) in
      let p = from_zero nodes ns wa a s.ha in
      let q = from_zero nodes ns wb b s.hb in
      let u = from_zero nodes ns ws.left (edge_of (rest_of a ws.left)) refl in
      let v = from_zero nodes ns ws.right (edge_of (rest_of b ws.right)) refl in
      (λ i. zipped (entry op) (p i) (q i)) ∙ split_zip op wa wb A B
      ∙ ap (λ (w : Weights). later (Some w.base) (zipped (entry op) (later (Some w.left) A) (later (Some w.right) B))) (sym s.hw)
      ∙ ap (later (Some ws.base)) (sym (λ i. zipped (entry op) (u i) (v i)))

  -- it is legal
  left_over : (e : Edge) (w v : ℕ) → e.weight ≡ Some w → v ≤ w → Legal nodes shape l e → Legal nodes shape l (edge_of (rest_of e v))
  left_over e w v h low t =
      let ns = drop l shape in
      record {
        fine = moved_fine nodes ns l w v e h t.fine;
        timely = ap (some late) (from_zero nodes ns v (edge_of (rest_of e v)) refl) ∙ lower_timely v w (chart nodes ns (edge_of (rest_of e 0))) low (ap (some late) (sym (from_zero nodes ns w e h)) ∙ t.timely);
      }

  pub rest_joinable : Joinable op nodes shape l (edge_of (rest_of a ws.left)) (edge_of (rest_of b ws.right))
  rest_joinable = record {
    left = left_over a wa ws.left s.ha (subst (λ (w : Weights). w.left ≤ wa) (sym s.hw) (split_left op wa wb)) s.able.left;
    right = left_over b wb ws.right s.hb (subst (λ (w : Weights). w.right ≤ wb) (sym s.hw) (split_right op wa wb)) s.able.right;
    timely = earlier_timely ws.base inner (ap (some late) (sym whole_is) ∙ s.able.timely);
  }

  same_parts : parts (drop l shape) l inner ≡ parts (drop l shape) l (goal op nodes shape l a b)
  same_parts = sym (parts_later (drop l shape) l ws.base inner) ∙ ap (parts (drop l shape) l) (sym whole_is)

  pub rest_stuck : (new : List (Option Node)) → Stuck new shape l inner → Stuck new shape l (goal op nodes shape l a b)
  rest_stuck new t = stuck_wider new shape l l (goal op nodes shape l a b) inner (λ p h. subst (In p) same_parts h) t

  -- a result of what is left is raised to one of the whole
  module _ (new : List (Option Node)) (store : Store new shape) (e : Edge) (st : Stands new shape l inner e) where
    pub rest_timely : late (plus (Some ws.base) e.weight) ≡ false
    rest_timely = raise_timely new shape store l e inner (goal op nodes shape l a b) ws.base st whole_is s.able.timely

    pub rest_stands : (r : Edge) → r ≡ raised (Some ws.base) e → Stands new shape l (goal op nodes shape l a b) r
    rest_stands r same = raise_stands new shape store l e inner (goal op nodes shape l a b) ws.base st whole_is r same

pub rest_grew : (old new : NodeStore) {op : Op} {l : ℕ} {a b : Edge} {wa wb : ℕ} {ws : Weights} (s : Sides op (nodes_in old) (shape_in old) l a b wa wb ws) → Grew old new l (inner s) → Grew old new l (goal op (nodes_in old) (shape_in old) l a b)
rest_grew old new {op} {l} {a} {b} s g = grew_alike old new l (inner s) (goal op (nodes_in old) (shape_in old) l a b) (same_parts s) g

-- Two edges with times to nodes

pub record Pair (op : Op) (old : NodeStore) (l : ℕ) (x y : TimedEdge) : Type 0 where
  pub lt : l < length (shape_in old)
  pub able : Joinable op (nodes_in old) (shape_in old) l (edge_of x) (edge_of y)

pub pair_of : (op : Op) (old : NodeStore) (l : ℕ) (x y : TimedEdge) → l < length (shape_in old) → Joinable op (nodes_in old) (shape_in old) l (edge_of x) (edge_of y) → Pair op old l x y
pair_of op old l x y lt able = record { lt = lt; able = able }

-- the edges that the two nodes have for a setting, raised, once the kids before it stand
pub record Next (op : Op) (old mid : NodeStore) (l : ℕ) (x y : TimedEdge) (i : ℕ) (kids : List Edge) (d e : Edge) : Type 0 where
  pub pair : Pair op old l x y
  pub below : i < get_or (shape_in old) l 0
  pub way : Begun old mid l (goal op (nodes_in old) (shape_in old) l (edge_of x) (edge_of y)) i kids
  pub left : d ≡ raised (Some x.weight) (get_or (node_at (nodes_in old) x.child).edges i none_edge)
  pub right : e ≡ raised (Some y.weight) (get_or (node_at (nodes_in old) y.child).edges i none_edge)

-- the first n edges of the node that an edge leads to
abbrev pub edges_of : NodeStore → TimedEdge → ℕ → List Edge
edges_of old x n = take n (node_at (nodes_in old) x.child).edges

-- those of both, gone through in step
module _ {op : Op} {old : NodeStore} {l : ℕ} {x y : TimedEdge} (pair : Pair op old l x y) {n : ℕ} {s : Enumerate (Zip (Iter Edge) (Iter Edge))} (ahead : Ahead (edges_of old x n) (edges_of old y n) s) (count : n ≡ get_or (shape_in old) l 0) where
  wide : length (edges_of old x n) ≡ n
  wide = subst (λ m. length (edges_of old x m) ≡ m) (sym count) (side_formed (nodes_in old) (shape_in old) old.ready.store l pair.lt (edge_of x) x.weight (node_at (nodes_in old) x.child) pair.able.left.fine refl refl).wide

  module _ (t : Enumerate (Zip (Iter Edge) (Iter Edge))) {r : Option (ℕ × (Bor Edge × Bor Edge))} where
    pub two_all : r ≡ None → enumerate_steps (zips fronts fronts) s r t → enumerate_count s ≡ get_or (shape_in old) l 0
    two_all none steps = ended t ahead none steps ∙ wide ∙ count

    module _ {i : ℕ} {p : Bor Edge × Bor Edge} (is : r ≡ Some (i, p)) (steps : enumerate_steps (zips fronts fronts) s r t) where
      pub two : Turn (edges_of old x n) (edges_of old y n) s t i p
      two = turn ahead is steps

      pub two_below : i < get_or (shape_in old) l 0
      two_below = omega (arith, two.below, wide, count)

      pub two_left : p.0.now ≡ get_or (node_at (nodes_in old) x.child).edges i none_edge
      two_left = two.left ∙ get_or-take n (node_at (nodes_in old) x.child).edges i none_edge (omega (arith, two_below, count))

      pub two_right : p.1.now ≡ get_or (node_at (nodes_in old) y.child).edges i none_edge
      two_right = two.right ∙ get_or-take n (node_at (nodes_in old) y.child).edges i none_edge (omega (arith, two_below, count))

      pub next_of : {mid : NodeStore} {kids : List Edge} {d e : Edge} → Begun old mid l (goal op (nodes_in old) (shape_in old) l (edge_of x) (edge_of y)) (enumerate_count s) kids → d ≡ raised (Some x.weight) p.0.now → e ≡ raised (Some y.weight) p.1.now → Next op old mid l x y i kids d e
      next_of {mid} {kids} way hd he = record {
        pair = pair;
        below = two_below;
        way = subst (λ k. Begun old mid l (goal op (nodes_in old) (shape_in old) l (edge_of x) (edge_of y)) k kids) (sym two.at) way;
        left = hd ∙ ap (raised (Some x.weight)) two_left;
        right = he ∙ ap (raised (Some y.weight)) two_right;
      }

module _ {op : Op} {old : NodeStore} {l : ℕ} {x y : TimedEdge} (pair : Pair op old l x y) where
  lt : l < length (shape_in old)
  lt = pair.lt

  able : Joinable op (nodes_in old) (shape_in old) l (edge_of x) (edge_of y)
  able = pair.able

  abbrev nodes : List (Option Node)
  nodes = nodes_in old

  abbrev shape : Shape
  shape = shape_in old

  abbrev aim : Chart
  aim = goal op nodes shape l (edge_of x) (edge_of y)

  -- as charts of the two nodes
  aim_is : aim ≡ zipped (entry op) (later (Some x.weight) (body nodes (drop l shape) (node_at nodes x.child))) (later (Some y.weight) (body nodes (drop l shape) (node_at nodes y.child)))
  aim_is =
      let p = side_chart nodes shape old.ready.store l lt (edge_of x) x.weight (node_at nodes x.child) able.left.fine refl refl in
      let q = side_chart nodes shape old.ready.store l lt (edge_of y) y.weight (node_at nodes y.child) able.right.fine refl refl in
      λ i. zipped (entry op) (p i) (q i)

  aim_long : length aim ≡ get_or shape l 0 * size (drop (l + 1) shape)
  aim_long =
      let p = side_long nodes shape old.ready.store l lt (edge_of x) x.weight (node_at nodes x.child) able.left.fine refl refl in
      let q = side_long nodes shape old.ready.store l lt (edge_of y) y.weight (node_at nodes y.child) able.right.fine refl refl in
      ap length aim_is ∙ zipped_length (entry op) (later (Some x.weight) (body nodes (drop l shape) (node_at nodes x.child))) (later (Some y.weight) (body nodes (drop l shape) (node_at nodes y.child))) (p ∙ sym q) ∙ p

  module _ (i : ℕ) (il : i < get_or shape l 0) where
    abbrev left : Edge
    left = raised (Some x.weight) (get_or (node_at nodes x.child).edges i none_edge)

    abbrev right : Edge
    right = raised (Some y.weight) (get_or (node_at nodes y.child).edges i none_edge)

    -- the kids are raised in time
    pub raise_left : late (plus (Some x.weight) (get_or (node_at nodes x.child).edges i none_edge).weight) ≡ false
    raise_left = side_timely nodes shape old.ready.store l lt (edge_of x) x.weight (node_at nodes x.child) able.left.fine refl refl i il able.left.timely

    pub raise_right : late (plus (Some y.weight) (get_or (node_at nodes y.child).edges i none_edge).weight) ≡ false
    raise_right = side_timely nodes shape old.ready.store l lt (edge_of y) y.weight (node_at nodes y.child) able.right.fine refl refl i il able.right.timely

    left_kid : Legal nodes shape (l + 1) left
    left_kid = side_legal nodes shape old.ready.store l lt (edge_of x) x.weight (node_at nodes x.child) able.left.fine refl refl i il able.left.timely

    right_kid : Legal nodes shape (l + 1) right
    right_kid = side_legal nodes shape old.ready.store l lt (edge_of y) y.weight (node_at nodes y.child) able.right.fine refl refl i il able.right.timely

    kid_goal : goal op nodes shape (l + 1) left right ≡ piece shape l aim i
    kid_goal =
        let ns = drop (l + 1) shape in
        let p = sym (side_piece nodes shape old.ready.store l lt (edge_of x) x.weight (node_at nodes x.child) able.left.fine refl refl i il) in
        let q = sym (side_piece nodes shape old.ready.store l lt (edge_of y) y.weight (node_at nodes y.child) able.right.fine refl refl i il) in
        (λ j. zipped (entry op) (p j) (q j)) ∙ sym (zipped_piece (entry op) (get_or shape l 0) (size ns) i (later (Some x.weight) (body nodes (drop l shape) (node_at nodes x.child))) (later (Some y.weight) (body nodes (drop l shape) (node_at nodes y.child)))) ∙ ap (λ c. piece shape l c i) (sym aim_is)

  -- the node
  module _ {mid : NodeStore} {kids : List Edge} (way : Begun old mid l aim (get_or shape l 0) kids) where
    pub kids_makeable : Makeable (nodes_in mid) (shape_in mid) l kids
    kids_makeable = begun_makeable old mid mid l aim (get_or shape l 0) kids lt way aim refl aim_long able.timely

    module _ {new : NodeStore} (g : Grew mid new l (together (nodes_in mid) (shape_in mid) l kids)) where
      pub join_made : Grew old new l aim
      join_made = grew_made old mid new l aim (get_or shape l 0) kids lt way aim refl aim_long g

      pub join_built : (r : Option Edge) → Built (nodes_in new) (shape_in mid) l (together (nodes_in mid) (shape_in mid) l kids) r → Built (nodes_in new) shape l aim r
      join_built r b = built_made old mid new l aim (get_or shape l 0) kids lt way aim refl aim_long r b

      -- as it is remembered
      pub join_right : (e : Edge) → Stands (nodes_in new) (shape_in mid) l (together (nodes_in mid) (shape_in mid) l kids) e → Right (nodes_in new) (shape_in new) (record { operation = Join op; level = l; left = edge_of x; right = edge_of y }) e
      join_right e st =
          let grew = join_made in
          let at = join_built (Some e) st in
          let ns = drop l shape in
          let p = chart_kept nodes (nodes_in new) grew.grows.kept shape old.ready.store ns l (edge_of x) refl able.left.fine in
          let q = chart_kept nodes (nodes_in new) grew.grows.kept shape old.ready.store ns l (edge_of y) refl able.right.fine in
          subst (λ n. Right (nodes_in new) n (record { operation = Join op; level = l; left = edge_of x; right = edge_of y }) e) (sym grew.same) (record {
            left = fine_kept nodes (nodes_in new) grew.grows.kept ns l (edge_of x) able.left.fine;
            right = fine_kept nodes (nodes_in new) grew.grows.kept ns l (edge_of y) able.right.fine;
            stands = (at.0, at.1 ∙ sym (λ i. zipped (entry op) (p i) (q i)));
          })

module _ {op : Op} {old mid : NodeStore} {l : ℕ} {x y : TimedEdge} {i : ℕ} {kids : List Edge} {d e : Edge} (s : Next op old mid l x y i kids d e) where
  abbrev rest : Shape
  rest = drop (l + 1) (shape_in old)

  abbrev whole : Chart
  whole = goal op (nodes_in old) (shape_in old) l (edge_of x) (edge_of y)

  left_legal : Legal (nodes_in old) (shape_in old) (l + 1) (left s.pair i s.below)
  left_legal = left_kid s.pair i s.below

  right_legal : Legal (nodes_in old) (shape_in old) (l + 1) (right s.pair i s.below)
  right_legal = right_kid s.pair i s.below

  left_same : chart (nodes_in mid) rest (left s.pair i s.below) ≡ chart (nodes_in old) rest (left s.pair i s.below)
  left_same = chart_kept (nodes_in old) (nodes_in mid) s.way.way.grows.kept (shape_in old) old.ready.store rest (l + 1) (left s.pair i s.below) refl left_legal.fine

  right_same : chart (nodes_in mid) rest (right s.pair i s.below) ≡ chart (nodes_in old) rest (right s.pair i s.below)
  right_same = chart_kept (nodes_in old) (nodes_in mid) s.way.way.grows.kept (shape_in old) old.ready.store rest (l + 1) (right s.pair i s.below) refl right_legal.fine

  goal_same : goal op (nodes_in mid) (shape_in old) (l + 1) (left s.pair i s.below) (right s.pair i s.below) ≡ piece (shape_in old) l whole i
  goal_same = let p = left_same in let q = right_same in (λ j. zipped (entry op) (p j) (q j)) ∙ kid_goal s.pair i s.below

  joinable_here : Joinable op (nodes_in mid) (shape_in old) (l + 1) (left s.pair i s.below) (right s.pair i s.below)
  joinable_here = record {
    left = record {
      fine = fine_kept (nodes_in old) (nodes_in mid) s.way.way.grows.kept rest (l + 1) (left s.pair i s.below) left_legal.fine;
      timely = ap (some late) left_same ∙ left_legal.timely;
    };
    right = record {
      fine = fine_kept (nodes_in old) (nodes_in mid) s.way.way.grows.kept rest (l + 1) (right s.pair i s.below) right_legal.fine;
      timely = ap (some late) right_same ∙ right_legal.timely;
    };
    timely = ap (some late) goal_same ∙ piece_timely (shape_in old) l whole i s.pair.able.timely;
  }

  pub kid_joinable : Joinable op (nodes_in mid) (shape_in mid) (l + 1) d e
  kid_joinable =
      let p = sym s.way.same in
      let q = sym s.left in
      let r = sym s.right in
      coe 0 1 (j. Joinable op (nodes_in mid) (p j) (l + 1) (q j) (r j)) joinable_here

  -- what the call for a setting is to build is that piece
  kid_is : goal op (nodes_in mid) (shape_in mid) (l + 1) d e ≡ piece (shape_in old) l whole i
  kid_is =
      let p = s.way.same in
      let q = s.left in
      let r = s.right in
      (λ j. goal op (nodes_in mid) (p j) (l + 1) (q j) (r j)) ∙ goal_same

  module _ {new : NodeStore} (g : Grew mid new (l + 1) (goal op (nodes_in mid) (shape_in mid) (l + 1) d e)) where
    pub join_grew : Grew old new l whole
    join_grew = grew_next old mid new l whole i kids s.pair.lt s.way (goal op (nodes_in mid) (shape_in mid) (l + 1) d e) s.below kid_is g

    pub join_stuck : Stuck (nodes_in new) (shape_in mid) (l + 1) (goal op (nodes_in mid) (shape_in mid) (l + 1) d e) → Stuck (nodes_in new) (shape_in old) l whole
    join_stuck t = stuck_next old mid new l whole i kids s.pair.lt s.way (goal op (nodes_in mid) (shape_in mid) (l + 1) d e) s.below kid_is g t

    pub join_more : (kid : Edge) → Stands (nodes_in new) (shape_in mid) (l + 1) (goal op (nodes_in mid) (shape_in mid) (l + 1) d e) kid → Begun old new l whole (i + 1) (set kids i kid)
    join_more kid st = begun_next old mid new l whole i kids s.pair.lt s.way (goal op (nodes_in mid) (shape_in mid) (l + 1) d e) s.below kid_is g kid st
