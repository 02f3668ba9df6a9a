-- A sum with an edge whose chart is 0 throughout. Assumes nothing.
use Rattle.std.proofs.Common.{◌≡◌, ℕ, List, [], ◌∷◌, length, drop, Some, Option, sym, refl, ap, ◌∙◌, arith}
use Rattle.nodes.specs.declared.edge.Edge.{Edge}
use Rattle.nodes.specs.declared.node.Node.{Node}
use Rattle.nodes.specs.declared.remembered.Op.{Op}
use Rattle.nodes.specs.declared.remembered.Op.TheVariants.{Sum}
use Rattle.model.specs.Charts.{Chart, plus, zipped}
use Rattle.model.specs.Scenes.{Shape}
use Rattle.model.proofs.Charting.{zipped_comm}
use Rattle.parts.specs.Shifts.{later}
use Rattle.store.specs.Stores.{chart, Store}
use Rattle.store.proofs.Canon.{knows}
use Rattle.store.proofs.Greatest.{plus_zero}
use Rattle.build.specs.Builds.{Stands}
use Rattle.build.specs.Zeros.{Zero}
use Rattle.build.proofs.Sides.{moved_fine, from_zero}
use Rattle.memo.specs.Operations.{entry}
use Rattle.apply.specs.Joins.{goal}
use Rattle.apply.specs.Splits.{edge_of, split_of}
use Rattle.apply.specs.declared.split.Weights.{Weights}
use Rattle.apply.proofs.Zips.{entry_comm}
use Rattle.apply.proofs.Joining.{Sides, rest_of, rest_joinable, whole_is}

sum_zero : (c z : Chart) → length c ≡ length z → Zero z → zipped plus c z ≡ c
sum_zero [] z n h = refl
sum_zero (x ∷ c) [] n h = absurd (omega (arith, n))
sum_zero (x ∷ c) (y ∷ z) n h =
    let p = ap (plus x) h.0 ∙ plus_zero x in
    let q = sum_zero c z (omega (arith, n)) h.1 in
    λ i. p i ∷ q i

module _ {op : Op} {nodes : List (Option Node)} {shape : Shape} {l : ℕ} {a b : Edge} {wa wb : ℕ} {ws : Weights} (s : Sides op nodes shape l a b wa wb ws) (store : Store nodes shape) (sum : op ≡ Sum) where
  abbrev ns : Shape
  ns = drop l shape

  -- what is left of the two weights is 0, and so the charts are as long as those of the edges
  abbrev left : Chart
  left = chart nodes ns (edge_of (rest_of a ws.left))

  abbrev right : Chart
  right = chart nodes ns (edge_of (rest_of b ws.right))

  weights : ws ≡ split_of Sum wa wb
  weights = s.hw ∙ ap (λ o. split_of o wa wb) sum

  long : length left ≡ length right
  long =
      let able = rest_joinable s in
      (knows nodes shape store ns l (edge_of (rest_of a ws.left)) refl able.left.fine).long ∙ sym (knows nodes shape store ns l (edge_of (rest_of b ws.right)) refl able.right.fine).long

  -- an edge with the weight in common to a child is what is left of it, later by that weight
  later_by : (e : Edge) (v : ℕ) → v ≡ 0 → chart nodes ns (record { weight = Some ws.base; child = e.child }) ≡ later (Some ws.base) (chart nodes ns (edge_of (rest_of e v)))
  later_by e v none = from_zero nodes ns ws.base (record { weight = Some ws.base; child = e.child }) refl ∙ ap (λ w. later (Some ws.base) (chart nodes ns (record { weight = Some w; child = e.child }))) (sym none)

  pub sum_is_left : Zero right → Stands nodes shape l (goal op nodes shape l a b) (record { weight = Some ws.base; child = a.child })
  sum_is_left z = (
    moved_fine nodes ns l wa ws.base a s.ha s.able.left.fine,
    later_by a ws.left (ap (λ (w : Weights). w.left) weights) ∙ ap (later (Some ws.base)) (sym (sum_zero left right long z) ∙ ap (λ o. zipped (entry o) left right) (sym sum)) ∙ sym (whole_is s),
  )

  pub sum_is_right : Zero left → Stands nodes shape l (goal op nodes shape l a b) (record { weight = Some ws.base; child = b.child })
  sum_is_right z = (
    moved_fine nodes ns l wb ws.base b s.hb s.able.right.fine,
    later_by b ws.right (ap (λ (w : Weights). w.right) weights)
        ∙ ap (later (Some ws.base)) (sym (sum_zero right left (sym long) z) ∙ zipped_comm plus (entry_comm Sum) right left ∙ ap (λ o. zipped (entry o) left right) (sym sum))
        ∙ sym (whole_is s),
  )
