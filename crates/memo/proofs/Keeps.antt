-- What is remembered stays right as the store grows, and as one result is added. Assumes nothing.
use Rattle.std.proofs.Common.{◌≡◌, ℕ, List, drop, Option, sym, refl, ◌∙◌, subst, inl, inr}
use Rattle.table.specs.Tables.{Table, Kept}
use Rattle.nodes.specs.Keys.{SameKey, initial_of}
use Rattle.nodes.specs.declared.edge.Edge.{Edge}
use Rattle.nodes.specs.declared.node.Node.{Node}
use Rattle.nodes.specs.declared.remembered.Key.{Key}
use Rattle.nodes.specs.declared.remembered.Remembered.{Remembered}
use Rattle.model.specs.Charts.{Chart}
use Rattle.model.specs.Scenes.{Shape}
use Rattle.store.specs.Stores.{chart, Fine, Store}
use Rattle.store.proofs.Grows.{fine_kept, chart_kept}
use Rattle.build.specs.Grew.{nodes_in, shape_in, Grew}
use Rattle.build.specs.declared.node_store.NodeStore.{NodeStore}
use Rattle.memo.specs.Operations.{result_chart}
use Rattle.memo.specs.Results.{Added, Right, Knows}

module _ (old new : List (Option Node)) (kept : Kept old new) (shape : Shape) (store : Store old shape) where
  pub right_kept : (key : Key) (result : Edge) → Right old shape key result → Right new shape key result
  right_kept key result r =
      let l = key.level in
      let ns = drop l shape in
      let same : (e : Edge) → Fine old ns l e → chart new ns e ≡ chart old ns e = λ e f. chart_kept old new kept shape store ns l e refl f in
      let p = sym (same key.left r.left) in
      let q = sym (same key.right r.right) in
      record {
        left = fine_kept old new kept ns l key.left r.left;
        right = fine_kept old new kept ns l key.right r.right;
        stands = (fine_kept old new kept ns l result r.stands.0, same result r.stands.0 ∙ r.stands.1 ∙ (λ i. result_chart key.operation ns l (p i) (q i)));
      }

  pub knows_kept : (memo : List (Option Remembered)) → Knows old shape memo → Knows new shape memo
  knows_kept memo k = record { table = k.table; all = λ i x h. right_kept x.key x.result (k.all i x h) }

pub knows_added : (nodes : List (Option Node)) (shape : Shape) (before after : List (Option Remembered)) (x : Remembered) → Knows nodes shape before → Table SameKey initial_of after → Added before after x → Right nodes shape x.key x.result → Knows nodes shape after
knows_added nodes shape before after x k table added r = record {
  table = table;
  all = λ i y h. elim (added i y h) [ inl p ↦ k.all i y p | inr p ↦ subst (λ (z : Remembered). Right nodes shape z.key z.result) (sym p) r ];
}

-- what is known of a store is known once it has grown
pub knows_grew : (old new : NodeStore) (l : ℕ) (c : Chart) (memo : List (Option Remembered)) → Knows (nodes_in old) (shape_in old) memo → Grew old new l c → Knows (nodes_in new) (shape_in new) memo
knows_grew old new l c memo k g = subst (λ s. Knows (nodes_in new) s memo) (sym g.same) (knows_kept (nodes_in old) (nodes_in new) g.grows.kept (shape_in old) old.ready.store memo k)
