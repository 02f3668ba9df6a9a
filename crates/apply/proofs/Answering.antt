-- The answers of joining that make no node. Assumes nothing.
use Rattle.std.proofs.Common.{◌≡◌, ℕ, min, List, [], ◌∷◌, length, drop, Some, None, Option, sym, refl, ap, ◌∙◌, subst, arith}
use Rattle.std.proofs.lemmas.List.{drop_all}
use Rattle.nodes.specs.declared.edge.Edge.{Edge}
use Rattle.nodes.specs.declared.node.Node.{Node}
use Rattle.nodes.specs.declared.remembered.Op.{Op}
use Rattle.nodes.specs.declared.remembered.Op.TheVariants.{Cheaper, Sum}
use Rattle.model.specs.Charts.{Time, lesser, plus, zipped}
use Rattle.model.specs.Scenes.{Shape}
use Rattle.model.proofs.Charting.{zipped_comm}
use Rattle.parts.specs.Shifts.{later}
use Rattle.store.specs.Stores.{chart, Fine, Store}
use Rattle.store.proofs.Canon.{knows}
use Rattle.build.specs.Builds.{Stands}
use Rattle.build.proofs.Sides.{never_chart, moved_fine, from_zero}
use Rattle.memo.specs.Operations.{entry}
use Rattle.apply.specs.Joins.{goal}
use Rattle.apply.specs.Splits.{split_of, skipped}
use Rattle.apply.specs.declared.split.Weights.{Weights}
use Rattle.apply.proofs.Zips.{entry_comm, cheaper_never, sum_never, split_base, cheaper_same}

-- where the one has no time
module _ (nodes : List (Option Node)) (shape : Shape) (l : ℕ) (a b : Edge) (none : a.weight ≡ None) where
  never : chart nodes (drop l shape) a ≡ later None (chart nodes (drop l shape) a)
  never = never_chart nodes (drop l shape) a none

  skipped_chart : (op : Op) → length (chart nodes (drop l shape) a) ≡ length (chart nodes (drop l shape) b) → chart nodes (drop l shape) (skipped op a b) ≡ goal op nodes shape l a b
  skipped_chart Cheaper n = sym (ap (λ c. zipped lesser c (chart nodes (drop l shape) b)) never ∙ cheaper_never (chart nodes (drop l shape) a) (chart nodes (drop l shape) b) n)
  skipped_chart Sum n = never ∙ sym (ap (λ c. zipped plus c (chart nodes (drop l shape) b)) never ∙ sum_never (chart nodes (drop l shape) a) (chart nodes (drop l shape) b) n)

skipped_fine : (op : Op) (P : Edge → Type 0) (a b : Edge) → P a → P b → P (skipped op a b)
skipped_fine Cheaper P a b p q = q
skipped_fine Sum P a b p q = p

pub answer_left : (op : Op) (nodes : List (Option Node)) (shape : Shape) → Store nodes shape → (l : ℕ) (a b e : Edge) → a.weight ≡ None → Fine nodes (drop l shape) l a → Fine nodes (drop l shape) l b → e ≡ skipped op a b → Stands nodes shape l (goal op nodes shape l a b) e
answer_left op nodes shape store l a b e none fa fb is =
    let ns = drop l shape in
    let long = (knows nodes shape store ns l a refl fa).long ∙ sym (knows nodes shape store ns l b refl fb).long in
    subst (λ d. Stands nodes shape l (goal op nodes shape l a b) d) (sym is) (skipped_fine op (Fine nodes ns l) a b fa fb, skipped_chart nodes shape l a b none op long)

goal_comm : (op : Op) (nodes : List (Option Node)) (shape : Shape) (l : ℕ) (a b : Edge) → goal op nodes shape l a b ≡ goal op nodes shape l b a
goal_comm op nodes shape l a b = zipped_comm (entry op) (entry_comm op) (chart nodes (drop l shape) a) (chart nodes (drop l shape) b)

pub answer_right : (op : Op) (nodes : List (Option Node)) (shape : Shape) → Store nodes shape → (l : ℕ) (a b e : Edge) → b.weight ≡ None → Fine nodes (drop l shape) l a → Fine nodes (drop l shape) l b → e ≡ skipped op b a → Stands nodes shape l (goal op nodes shape l a b) e
answer_right op nodes shape store l a b e none fa fb is =
    let r = answer_left op nodes shape store l b a e none fb fa is in
    (r.0, r.1 ∙ goal_comm op nodes shape l b a)

-- no device remains
pub answer_leaf : (op : Op) (nodes : List (Option Node)) (shape : Shape) (l : ℕ) (a b : Edge) (wa wb : ℕ) (ws : Weights) → l ≡ length shape → a.weight ≡ Some wa → b.weight ≡ Some wb → ws ≡ split_of op wa wb → Fine nodes (drop l shape) l a → Stands nodes shape l (goal op nodes shape l a b) (record { weight = Some ws.base; child = a.child })
answer_leaf op nodes shape l a b wa wb ws at ha hb hw fa =
    let e : Edge = record { weight = Some ws.base; child = a.child } in
    let none = drop_all l shape (omega arith) in
    subst (λ (t : Shape). Fine nodes t l e × (chart nodes t e ≡ zipped (entry op) (chart nodes t a) (chart nodes t b))) (sym none)
    (subst (λ (t : Shape). Fine nodes t l a) none fa, ap (λ (v : Time). v ∷ []) (ap (λ (w : Weights). Some w.base) hw ∙ sym (split_base op wa wb) ∙ sym (λ i. entry op (ha i) (hb i))))

-- the lesser of two edges to one node
pub answer_same : (op : Op) (nodes : List (Option Node)) (shape : Shape) (l : ℕ) (a b : Edge) (wa wb : ℕ) (ws : Weights) → op ≡ Cheaper → a.child ≡ b.child → a.weight ≡ Some wa → b.weight ≡ Some wb → ws ≡ split_of op wa wb → Fine nodes (drop l shape) l a → Stands nodes shape l (goal op nodes shape l a b) (record { weight = Some ws.base; child = a.child })
answer_same op nodes shape l a b wa wb ws ho hc ha hb hw fa =
    let ns = drop l shape in
    let zero_edge : Edge = record { weight = Some 0; child = a.child } in
    let base : ws.base ≡ min wa wb = ap (λ (w : Weights). w.base) (hw ∙ ap (λ o. split_of o wa wb) ho) in
    let m : Edge = record { weight = Some (min wa wb); child = a.child } in
    let p : chart nodes ns a ≡ later (Some wa) (chart nodes ns zero_edge) = from_zero nodes ns wa a ha in
    let q : chart nodes ns b ≡ later (Some wb) (chart nodes ns zero_edge) = from_zero nodes ns wb b hb ∙ ap (λ k. later (Some wb) (chart nodes ns (record { weight = Some 0; child = k }))) (sym hc) in
    subst (λ v. Stands nodes shape l (goal op nodes shape l a b) (record { weight = Some v; child = a.child })) (sym base) (
      moved_fine nodes ns l wa (min wa wb) a ha fa,
      from_zero nodes ns (min wa wb) m refl ∙ sym (cheaper_same wa wb (chart nodes ns zero_edge)) ∙ sym (λ i. zipped lesser (p i) (q i)) ∙ ap (λ o. goal o nodes shape l a b) (sym ho),
    )
