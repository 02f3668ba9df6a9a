-- What making a node leaves. Assumes nothing.
use Rattle.std.proofs.Common.{◌≡◌, ℕ, ◌+◌, ◌<◌, false, ◌⊎◌, List, map, length, get_or, drop, Some, None, Option, sym, ap, ◌∙◌, subst, inl, inr}
use Rattle.std.proofs.lemmas.List.{drop_more}
use Rattle.table.specs.Tables.{slot, Kept}
use Rattle.table.specs.Finds.{Crowded, Placed, Interned}
use Rattle.nodes.specs.declared.edge.Edge.{Edge}
use Rattle.nodes.specs.declared.node.Node.{Node}
use Rattle.model.specs.Charts.{Time, Chart, late}
use Rattle.model.specs.Lists.{some}
use Rattle.model.specs.Scenes.{Shape}
use Rattle.store.specs.Stores.{lowest, highest, chart, Fine, Proper}
use Rattle.store.specs.Fillings.{Stuck}
use Rattle.build.specs.Builds.{lower_by, wanted, NodeTable, Ready, Kids, Makeable, Grows, Made, together}
use Rattle.build.proofs.Makes.{make_stuck, store_more, grown_more, made_fine, made_chart, made_part, wanted_formed, wanted_timely}
use Rattle.build.proofs.Steps.{grows_none}

pub wanted_is : (nodes : List (Option Node)) (ns : Shape) (l : ℕ) (kids : List Edge) (low : Time) (edges : List Edge) (most : Time) → low ≡ lowest kids → edges ≡ map (lower_by low) kids → most ≡ highest nodes ns edges → ◌≡◌ {A = Node} (record { level = l; most = most; edges = edges }) (wanted nodes ns l kids)
wanted_is nodes ns l kids low edges most h e m =
    let p = e ∙ ap (λ m. map (lower_by m) kids) h in
    let q = m ∙ ap (highest nodes ns) p in
    λ i. record { level = l; most = q i; edges = p i }

module _ (old new : List (Option Node)) (shape : Shape) (l : ℕ) (kids : List Edge) (ready : Ready old shape) (lt : l < length shape) (k : Kids old (get_or shape l 0) (drop (l + 1) shape) l kids) where
  made_placed : NodeTable new → Kept old new → length new ≡ length old → (i : ℕ) → Placed old new (wanted old (drop (l + 1) shape) l kids) i → Grows old new shape l (together old shape l kids)
  made_placed table kept same i put =
      let n = get_or shape l 0 in
      let ns = drop (l + 1) shape in
      let at = drop_more shape l 0 lt in
      let x = wanted old ns l kids in
      let f = wanted_formed old n ns l kids (ready.few l) k in
      record {
        table = table;
        store = store_more old new shape ready.store kept table.apart i x put.here put.others (subst (λ t. Proper old t x) (sym at) f);
        kept = kept;
        grown = grown_more old new shape ready.store kept table.apart i x put.here put.others l (together old shape l kids) (made_part old new shape ready.store kept n ns l at kids (ready.few l) k i put.here);
        same = same;
      }

  pub made_grows : NodeTable new → Kept old new → length new ≡ length old → (i : ℕ) → (new ≡ old) ⊎ Placed old new (wanted old (drop (l + 1) shape) l kids) i → Grows old new shape l (together old shape l kids)
  made_grows table kept same i (inl e) = subst (λ t. Grows old t shape l (together old shape l kids)) (sym e) (grows_none old shape l (together old shape l kids) ready)
  made_grows table kept same i (inr put) = made_placed table kept same i put

  pub made_answers : Kept old new → (i : ℕ) → slot new i ≡ Some (wanted old (drop (l + 1) shape) l kids) → (e : Edge) → ◌≡◌ {A = Edge} (record { weight = lowest kids; child = i }) e → Fine new (drop l shape) l e × (chart new (drop l shape) e ≡ together old shape l kids)
  made_answers kept i here e is =
      let n = get_or shape l 0 in
      let ns = drop (l + 1) shape in
      let at = drop_more shape l 0 lt in
      let m : Edge = record { weight = lowest kids; child = i } in
      subst (λ d. Fine new (drop l shape) l d × (chart new (drop l shape) d ≡ together old shape l kids)) is
      (subst (λ t. Fine new t l m × (chart new t m ≡ together old shape l kids)) (sym at)
      (made_fine old new shape ready.store kept n ns l at kids (ready.few l) k i here, made_chart old new shape ready.store kept n ns l at kids (ready.few l) k i here))

pub make_full : (nodes : List (Option Node)) (shape : Shape) (l : ℕ) (kids : List Edge) (ready : Ready nodes shape) → l < length shape → Kids nodes (get_or shape l 0) (drop (l + 1) shape) l kids → Crowded (λ (x y : Node). x ≡ y) nodes (wanted nodes (drop (l + 1) shape) l kids) → Stuck nodes shape l (together nodes shape l kids)
make_full nodes shape l kids ready lt k c = make_stuck nodes shape ready.store (get_or shape l 0) (drop (l + 1) shape) l (drop_more shape l 0 lt) kids (ready.few l) k c

pub made_timely : (nodes : List (Option Node)) (shape : Shape) (l : ℕ) (kids : List Edge) (ready : Ready nodes shape) → l < length shape → Kids nodes (get_or shape l 0) (drop (l + 1) shape) l kids → some late (together nodes shape l kids) ≡ false → (low : Time) (edges : List Edge) → low ≡ lowest kids → edges ≡ map (lower_by low) kids → late (highest nodes (drop (l + 1) shape) edges) ≡ false
made_timely nodes shape l kids ready lt k t low edges h e =
    ap (λ es. late (highest nodes (drop (l + 1) shape) es)) (e ∙ ap (λ m. map (lower_by m) kids) h)
    ∙ wanted_timely nodes shape ready.store (get_or shape l 0) (drop (l + 1) shape) l (drop_more shape l 0 lt) kids (ready.few l) k t

-- what is known of a node x, at a time of low, that is to be interned for some kids
pub record Making (old : List (Option Node)) (shape : Shape) (l : ℕ) (kids : List Edge) (low : Time) (x : Node) : Type 0 where
  pub ready : Ready old shape
  pub able : Makeable old shape l kids
  pub least : low ≡ lowest kids
  pub wanted : x ≡ wanted old (drop (l + 1) shape) l kids

module _ {old : List (Option Node)} {shape : Shape} {l : ℕ} {kids : List Edge} {low : Time} {x : Node} (m : Making old shape l kids low x) (new : List (Option Node)) where
  abbrev whole : Chart
  whole = together old shape l kids

  abbrev node : Node
  node = wanted old (drop (l + 1) shape) l kids

  -- in its slot it is what the edge leads to
  pub made_edge : NodeTable new → Kept old new → length new ≡ length old → (i : ℕ) → Interned (λ (y z : Node). y ≡ z) old new x (Some i) → Made old new shape l whole (Some (record { weight = low; child = i }))
  made_edge table kept same i got =
      let here : slot new i ≡ Some node = got.0.here ∙ ap {B = Option Node} Some (got.0.like ∙ m.wanted) in
      let how : (new ≡ old) ⊎ Placed old new node i = subst (λ y. (new ≡ old) ⊎ Placed old new y i) m.wanted got.1 in
      record {
        grows = made_grows old new shape l kids m.ready m.able.depth m.able.kids table kept same i how;
        built = made_answers old new shape l kids m.ready m.able.depth m.able.kids kept i here _ (let h = sym m.least in λ j. record { weight = h j; child = i });
      }

  -- without a slot nothing has changed
  pub made_none : Interned (λ (y z : Node). y ≡ z) old new x None → Made old new shape l whole None
  made_none got =
      let full = make_full old shape l kids m.ready m.able.depth m.able.kids (subst (Crowded (λ (y z : Node). y ≡ z) old) m.wanted got.1) in
      record {
        grows = subst (λ (n : List (Option Node)). Grows old n shape l whole) (sym got.0) (grows_none old shape l whole m.ready);
        built = subst (λ (n : List (Option Node)). Stuck n shape l whole) (sym got.0) full;
      }
