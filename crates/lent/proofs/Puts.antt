-- An edge with a time once a pair is put, at the device and above it. Assumes nothing.
use Rattle.std.proofs.Common.{◌≡◌, ℕ, ◌+◌, ◌-◌, ◌<◌, ◌≤◌, false, List, [], length, get_or, drop, Some, Option, sym, refl, ap, ◌∙◌, subst, arith}
use Rattle.std.proofs.lemmas.List.{drop_more}
use Rattle.nodes.specs.declared.edge.Edge.{Edge}
use Rattle.nodes.specs.declared.node.Node.{Node}
use Rattle.model.specs.Charts.{Chart, plus, put_chart, late}
use Rattle.model.specs.Lists.{In, some}
use Rattle.model.specs.Parts.{parts, pieces}
use Rattle.model.specs.Scenes.{Shape, size}
use Rattle.parts.specs.Shifts.{later}
use Rattle.parts.proofs.Pieces.{parts_later}
use Rattle.parts.proofs.Tabulated.{put_here, put_later}
use Rattle.store.specs.Stores.{none_edge, node_at, chart, Store}
use Rattle.store.specs.Fillings.{Stuck}
use Rattle.store.proofs.Canon.{knows}
use Rattle.build.specs.Builds.{Ready, raised, spread_chart, Grows, Legal, Spreadable, Stands}
use Rattle.build.proofs.Steps.{stuck_wider, grows_alike}
use Rattle.build.proofs.Sides.{earlier_timely, moved_fine, from_zero, raise_timely, raise_stands, side_kid, side_legal, side_timely}
use Rattle.puts.specs.Puts.{goal, at_zero}
use Rattle.puts.proofs.Putting.{goal_timely}

-- what is known of an edge with the time w above the device v, or at it
pub record Side (nodes : List (Option Node)) (shape : Shape) (l v d : ℕ) (e : Edge) (w : ℕ) : Type 0 where
  pub ready : Ready nodes shape
  pub above : l ≤ v
  pub depth : v < length shape
  pub setting : d < get_or shape v 0
  pub legal : Legal nodes shape l e
  pub weight : e.weight ≡ Some w

module _ {nodes : List (Option Node)} {shape : Shape} {l v d : ℕ} {e : Edge} {w : ℕ} (s : Side nodes shape l v d e w) where
  abbrev store : Store nodes shape
  store = s.ready.store

  -- the chart that the edge is to have
  abbrev pub whole : Chart
  whole = goal nodes shape l v d e

  pub whole_timely : some late whole ≡ false
  whole_timely = goal_timely (drop l shape) (v - l) d (chart nodes (drop l shape) e) s.legal.timely

  pub lt : l < length shape
  lt = omega (arith, s.above, s.depth)

  -- at the device, the edge for its setting; x is the node that the edge leads to
  module _ (x : Node) (here : x ≡ node_at nodes e.child) (same : l ≡ v) (k : ℕ) (setting : k ≡ d) where
    low : k < get_or shape l 0
    low = omega (arith, s.setting, setting, ap (λ j. get_or shape j 0) same)

    pub there_raise : late (plus (Some w) (get_or x.edges k none_edge).weight) ≡ false
    there_raise = side_timely nodes shape store l lt e w x s.legal.fine s.weight here k low s.legal.timely

    module _ (kid : Edge) (is : kid ≡ raised (Some w) (get_or x.edges k none_edge)) where
      there_legal : Legal nodes shape (l + 1) kid
      there_legal = subst (Legal nodes shape (l + 1)) (sym is) (side_legal nodes shape store l lt e w x s.legal.fine s.weight here k low s.legal.timely)

      pub there_spreadable : Spreadable nodes shape l kid
      there_spreadable = record { depth = lt; legal = there_legal }

      pub there_is : spread_chart shape l (chart nodes (drop (l + 1) shape) kid) ≡ whole
      there_is =
          let n = get_or shape l 0 in
          let ns = drop (l + 1) shape in
          let at = drop_more shape l 0 lt in
          let c = chart nodes (drop l shape) e in
          let p : get_or (pieces n (size ns) c) k [] ≡ chart nodes ns kid = side_kid nodes shape store l lt e w x s.legal.fine s.weight here k low ∙ ap (chart nodes ns) (sym is) in
          let long : length (get_or (pieces n (size ns) c) k []) ≡ size ns = ap length p ∙ (knows nodes shape store ns (l + 1) kid refl there_legal.fine).long in
          let z : 0 ≡ v - l = omega (arith, same) in
          ap (spread_chart shape l) (sym p) ∙ sym (put_here n k ns c low long) ∙ ap (λ t. put_chart t 0 k c) (sym at) ∙ (λ i. put_chart (drop l shape) (z i) (setting i) c)

  -- above it, the edge of the same child at 0
  pub rest_legal : Legal nodes shape l (at_zero e.child)
  rest_legal = record {
    fine = moved_fine nodes (drop l shape) l w 0 e s.weight s.legal.fine;
    timely = earlier_timely w (chart nodes (drop l shape) (at_zero e.child)) (ap (some late) (sym (from_zero nodes (drop l shape) w e s.weight)) ∙ s.legal.timely);
  }

  abbrev rest : Chart
  rest = goal nodes shape l v d (at_zero e.child)

  whole_is : whole ≡ later (Some w) rest
  whole_is = ap (put_chart (drop l shape) (v - l) d) (from_zero nodes (drop l shape) w e s.weight) ∙ put_later (drop l shape) (v - l) d (Some w) (chart nodes (drop l shape) (at_zero e.child))

  rest_parts : parts (drop l shape) l rest ≡ parts (drop l shape) l whole
  rest_parts = sym (parts_later (drop l shape) l w rest) ∙ ap (parts (drop l shape) l) (sym whole_is)

  module _ (new : List (Option Node)) (g : Grows nodes new shape l rest) where
    pub rest_grows : Grows nodes new shape l whole
    rest_grows = grows_alike nodes new shape l rest whole rest_parts g

    -- where its parts have no room, those of the chart have none
    pub rest_stuck : Stuck new shape l rest → Stuck new shape l whole
    rest_stuck t = stuck_wider new shape l l whole rest (λ p h. subst (In p) rest_parts h) t

    -- where they have, the edge is raised
    module _ (k : Edge) (st : Stands new shape l rest k) where
      pub raised_timely : late (plus (Some w) k.weight) ≡ false
      raised_timely = raise_timely new shape g.store l k rest whole w st whole_is whole_timely

      pub raised_stands : (r : Edge) → r ≡ raised (Some w) k → Stands new shape l whole r
      raised_stands r same = raise_stands new shape g.store l k rest whole w st whole_is r same
