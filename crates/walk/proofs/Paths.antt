-- One step down the path of a scene. Assumes nothing.
use Rattle.std.proofs.Common.{◌≡◌, ℕ, ◌+◌, ◌*◌, ◌<◌, false, List, length, get_or, drop, Some, None, Option, sym, refl, ap, ◌∙◌, subst, arith}
use Rattle.std.proofs.lemmas.List.{drop_more, drop_all}
use Rattle.nodes.specs.declared.edge.Edge.{Edge}
use Rattle.nodes.specs.declared.node.Node.{Node}
use Rattle.model.specs.Charts.{Time, at, plus, late}
use Rattle.model.specs.Scenes.{Shape, Scene, SceneOf, size, rank}
use Rattle.model.proofs.Ranks.{rank_less, scene_drop, scene_length, setting_less}
use Rattle.parts.proofs.Tabulated.{at_piece, get_or_later}
use Rattle.store.specs.Stores.{none_edge, node_at, chart}
use Rattle.build.specs.Builds.{raised, Ready, Legal}
use Rattle.build.proofs.Sides.{never_chart, side_kid, side_legal, side_timely}

-- no time anywhere
pub walk_never : (nodes : List (Option Node)) (ns : Shape) (s : Scene) (e : Edge) → e.weight ≡ None → None ≡ at ns (chart nodes ns e) s
walk_never nodes ns s e none =
    sym (ap (λ c. at ns c s) (never_chart nodes ns e none) ∙ get_or_later None (chart nodes ns e) (rank ns s) refl)

pub walk_end : (nodes : List (Option Node)) (shape : Shape) (l : ℕ) (s : Scene) (e : Edge) (w : ℕ) → l ≡ length shape → e.weight ≡ Some w → ◌≡◌ {A = Time} (Some w) (at (drop l shape) (chart nodes (drop l shape) e) s)
walk_end nodes shape l s e w end h = subst (λ (t : Shape). ◌≡◌ {A = Time} (Some w) (at t (chart nodes t e) s)) (sym (drop_all l shape (omega arith))) (sym h)

-- what is known at a step down: the edge has the time w, x is the node that it leads to, and k the scene's setting there
pub record Step (nodes : List (Option Node)) (shape : Shape) (scene : Scene) (l : ℕ) (e : Edge) (w : ℕ) (x : Node) (k : ℕ) : Type 0 where
  pub ready : Ready nodes shape
  pub shaped : SceneOf shape scene
  pub depth : l < length shape
  pub legal : Legal nodes shape l e
  pub weight : e.weight ≡ Some w
  pub here : x ≡ node_at nodes e.child
  pub setting : k ≡ get_or scene l 0

module _ {nodes : List (Option Node)} {shape : Shape} {scene : Scene} {l : ℕ} {e : Edge} {w : ℕ} {x : Node} {k : ℕ} (s : Step nodes shape scene l e w x k) where
  step_low : k < get_or shape l 0
  step_low = subst (λ j. j < get_or shape l 0) (sym s.setting) (setting_less shape scene l s.shaped s.depth)

  step_within : l < length scene
  step_within = omega (arith, scene_length shape scene s.shaped, s.depth)

  -- one of the eight edges of a node
  pub step_eight : k < 8
  step_eight = omega (arith, s.ready.few l, step_low)

  pub step_raise : late (plus (Some w) (get_or x.edges k none_edge).weight) ≡ false
  step_raise = side_timely nodes shape s.ready.store l s.depth e w x s.legal.fine s.weight s.here k step_low s.legal.timely

  module _ (kid : Edge) (is : kid ≡ raised (Some w) (get_or x.edges k none_edge)) where
    pub step_legal : Legal nodes shape (l + 1) kid
    step_legal = subst (Legal nodes shape (l + 1)) (sym is) (side_legal nodes shape s.ready.store l s.depth e w x s.legal.fine s.weight s.here k step_low s.legal.timely)

    pub step_value : at (drop (l + 1) shape) (chart nodes (drop (l + 1) shape) kid) (drop (l + 1) scene) ≡ at (drop l shape) (chart nodes (drop l shape) e) (drop l scene)
    step_value =
        let n = get_or shape l 0 in
        let ns = drop (l + 1) shape in
        let rest = drop (l + 1) scene in
        let c = chart nodes (drop l shape) e in
        let p = drop_more shape l 0 s.depth in
        let q = drop_more scene l 0 step_within in
        let r : rank ns rest < size ns = rank_less ns rest (scene_drop (l + 1) shape scene s.shaped) in
        ap (λ d. get_or d (rank ns rest) None) (ap (chart nodes ns) is ∙ sym (side_kid nodes shape s.ready.store l s.depth e w x s.legal.fine s.weight s.here k step_low))
        ∙ sym (at_piece n (size ns) k (rank ns rest) c step_low r)
        ∙ ap (λ j. get_or c (j * size ns + rank ns rest) None) s.setting
        ∙ sym (λ i. at (p i) c (q i))
