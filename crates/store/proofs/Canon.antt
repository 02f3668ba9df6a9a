-- In a store an edge is known by its chart, and a node by its part. Assumes nothing.
use Rattle.std.proofs.Common.{◌≡◌, ℕ, ◌+◌, ◌*◌, ◌<◌, true, false, List, [], ◌∷◌, ◌++◌, length, take, drop, is_some, Some, None, Option, sym, refl, ap, ◌∙◌, subst, inl, inr, arith, take-append-drop}
use lib.ListN.{length-map}
use Rattle.std.specs.List.{AllByRecursion, flat_map}
use Rattle.std.proofs.lemmas.Bool.{both_ways, cases_lt}
use Rattle.std.proofs.lemmas.List.{take_at, drop_at, drop-drop, get_or_past}
use Rattle.std.proofs.ByRecursion.{All-weaker}
use Rattle.table.specs.Tables.{slot}
use Rattle.nodes.specs.declared.edge.Edge.{Edge}
use Rattle.nodes.specs.declared.node.Node.{Node}
use Rattle.model.specs.Charts.{Time, Chart, plus, lesser, greatest}
use Rattle.model.specs.Parts.{least, lowered}
use Rattle.model.specs.Scenes.{Shape, size}
use Rattle.parts.specs.Shifts.{zeroed}
use Rattle.parts.proofs.Pieces.{length_each, least_later, least_append, lesser_none, lowered_back}
use Rattle.store.specs.Stores.{node_in, node_at, lowest, chart, below, highest, Leads, Fine, Formed, Proper, Store}
use Rattle.store.specs.Fillings.{Canonical}
use Rattle.store.proofs.Greatest.{greater_none, plus_zero, greatest_later, highest_joined}

pub edge_path : (e f : Edge) → e.weight ≡ f.weight → e.child ≡ f.child → e ≡ f
edge_path e f p q = λ i. record { weight = p i; child = q i }

pub node_path : (x y : Node) → x.level ≡ y.level → x.most ≡ y.most → x.edges ≡ y.edges → x ≡ y
node_path x y p q r = λ i. record { level = p i; most = q i; edges = r i }

-- what a taken slot holds
pub some_at : (nodes : List (Option Node)) (k : ℕ) → is_some (slot nodes k) ≡ true → slot nodes k ≡ Some (node_at nodes k)
some_at nodes k h = go (slot nodes k) h
  where
    go : (o : Option Node) → is_some o ≡ true → o ≡ Some (node_in o)
    go None h = absurd (both_ways false refl h)
    go (Some x) h = refl

pub slot_within : (nodes : List (Option Node)) (k : ℕ) → is_some (slot nodes k) ≡ true → k < length nodes
slot_within nodes k h = elim (cases_lt k (length nodes)) [
  | inl l ↦ l
  | inr l ↦ absurd (both_ways (is_some (slot nodes k)) (ap is_some (get_or_past nodes k None l)) h)
]

pub tail_of : (shape : Shape) (l n : ℕ) (ns : Shape) → drop l shape ≡ n ∷ ns → drop (l + 1) shape ≡ ns
tail_of shape l n ns at = sym (drop-drop 1 l shape) ∙ ap (drop 1) at

plus_zeroed : (w : Time) → plus w (zeroed w) ≡ w
plus_zeroed None = refl
plus_zeroed (Some w) = ap {B = Time} Some (omega arith)

lowest_each : (f : Edge → Chart) (es : List Edge) → AllByRecursion (λ e. least (f e) ≡ e.weight) es → least (flat_map f es) ≡ lowest es
lowest_each f [] a = refl
lowest_each f (e ∷ es) a = least_append (f e) (flat_map f es) ∙ ap (λ v. lesser v (least (flat_map f es))) a.0 ∙ ap (lesser e.weight) (lowest_each f es a.1)

-- what is known of an edge's chart
pub record Known (nodes : List (Option Node)) (ns : Shape) (e : Edge) : Type 0 where
  pub long : length (chart nodes ns e) ≡ size ns
  pub low : least (chart nodes ns e) ≡ e.weight
  pub high : greatest (chart nodes ns e) ≡ plus e.weight (below nodes ns e)

-- of a node's, by what is known of its edges
module _ (nodes : List (Option Node)) (n : ℕ) (ns : Shape) (es : List Edge) (known : AllByRecursion (Known nodes ns) es) where
  pub kids_long : AllByRecursion (λ e. length (chart nodes ns e) ≡ size ns) es
  kids_long = All-weaker (Known nodes ns) (λ e. length (chart nodes ns e) ≡ size ns) (λ e k. k.long) es known

  pub body_long : length es ≡ n → length (flat_map (chart nodes ns) es) ≡ n * size ns
  body_long h = length_each (chart nodes ns) (size ns) es kids_long ∙ ap (λ m. m * size ns) h

  pub body_low : least (flat_map (chart nodes ns) es) ≡ lowest es
  body_low = lowest_each (chart nodes ns) es (All-weaker (Known nodes ns) (λ e. least (chart nodes ns e) ≡ e.weight) (λ e k. k.low) es known)

  pub body_high : greatest (flat_map (chart nodes ns) es) ≡ highest nodes ns es
  body_high = highest_joined nodes ns (chart nodes ns) es (All-weaker (Known nodes ns) (λ e. greatest (chart nodes ns e) ≡ plus e.weight (below nodes ns e)) (λ e k. k.high) es known)

same_kids : (f : Edge → Chart) (m : ℕ) (P : Edge → Type 0) (es fs : List Edge) → length es ≡ length fs → AllByRecursion P es → AllByRecursion P fs → AllByRecursion (λ e. length (f e) ≡ m) es → AllByRecursion (λ e. length (f e) ≡ m) fs → flat_map f es ≡ flat_map f fs → ((a b : Edge) → P a → P b → f a ≡ f b → a ≡ b) → es ≡ fs
same_kids f m P [] [] n p q a b h same = refl
same_kids f m P [] (y ∷ ys) n p q a b h same = absurd (omega arith)
same_kids f m P (x ∷ xs) [] n p q a b h same = absurd (omega arith)
same_kids f m P (x ∷ xs) (y ∷ ys) n p q a b h same =
    let u = same x y p.0 q.0 (sym (take_at (f x) (flat_map f xs) m a.0) ∙ ap (take m) h ∙ take_at (f y) (flat_map f ys) m b.0) in
    let v = same_kids f m P xs ys (omega arith) p.1 q.1 a.1 b.1 (sym (drop_at (f x) (flat_map f xs) m a.0) ∙ ap (drop m) h ∙ drop_at (f y) (flat_map f ys) m b.0) same in
    λ i. u i ∷ v i

module _ (nodes : List (Option Node)) (shape : Shape) (store : Store nodes shape) where
  pub formed_at : (k l n : ℕ) (ns : Shape) (x : Node) → drop l shape ≡ n ∷ ns → slot nodes k ≡ Some x → x.level ≡ l → Formed nodes n ns x
  formed_at k l n ns x at here deep = subst (λ (t : Shape). Proper nodes t x) (ap (λ j. drop j shape) deep ∙ at) (store.proper k x here)

  -- the node that an edge leads to
  pub led : (l n : ℕ) (ns : Shape) (e : Edge) → drop l shape ≡ n ∷ ns → Leads nodes n l e → Formed nodes n ns (node_at nodes e.child)
  led l n ns e at f = formed_at e.child l n ns (node_at nodes e.child) at (some_at nodes e.child f.here) f.deep

  pub kids_of : (l n : ℕ) (ns : Shape) (e : Edge) → drop l shape ≡ n ∷ ns → Leads nodes n l e → AllByRecursion (Fine nodes ns (l + 1)) (take n (node_at nodes e.child).edges)
  kids_of l n ns e at f = subst (λ j. AllByRecursion (Fine nodes ns (j + 1)) (take n (node_at nodes e.child).edges)) f.deep (led l n ns e at f).kids

  pub knows : (ns : Shape) (l : ℕ) (e : Edge) → drop l shape ≡ ns → Fine nodes ns l e → Known nodes ns e
  knows [] l e at f = record { long = refl; low = lesser_none e.weight; high = greater_none e.weight ∙ sym (plus_zero e.weight) }
  knows (n ∷ ns) l e at f =
      let x = node_at nodes e.child in
      let es = take n x.edges in
      let w = led l n ns e at f in
      let known = All-weaker (Fine nodes ns (l + 1)) (Known nodes ns) (λ k g. knows ns (l + 1) k (tail_of shape l n ns at) g) es (kids_of l n ns e at f) in
      record {
        long = length-map (flat_map (chart nodes ns) es) (plus e.weight) ∙ body_long nodes n ns es known w.wide;
        low = least_later e.weight (flat_map (chart nodes ns) es) ∙ ap (plus e.weight) (body_low nodes n ns es known ∙ sym f.low) ∙ plus_zeroed e.weight;
        high = greatest_later e.weight (flat_map (chart nodes ns) es) ∙ ap (plus e.weight) (body_high nodes n ns es known ∙ sym w.high);
      }

  pub knows_kids : (l n : ℕ) (ns : Shape) (es : List Edge) → drop l shape ≡ n ∷ ns → AllByRecursion (Fine nodes ns (l + 1)) es → AllByRecursion (Known nodes ns) es
  knows_kids l n ns es at a = All-weaker (Fine nodes ns (l + 1)) (Known nodes ns) (λ k g. knows ns (l + 1) k (tail_of shape l n ns at) g) es a

  -- the chart of an edge, lowered, is that of its node
  pub lowered_is : (l n : ℕ) (ns : Shape) (e : Edge) → drop l shape ≡ n ∷ ns → Leads nodes n l e → lowered (chart nodes (n ∷ ns) e) ≡ flat_map (chart nodes ns) (take n (node_at nodes e.child).edges)
  lowered_is l n ns e at f =
      let es = take n (node_at nodes e.child).edges in
      let known = knows_kids l n ns es at (kids_of l n ns e at f) in
      lowered_back e.weight (flat_map (chart nodes ns) es) (f.low ∙ sym (body_low nodes n ns es known))

  -- nodes of one level with the same chart, of which one may be yet to come
  same_node : (l n : ℕ) (ns : Shape) (x y : Node) → drop l shape ≡ n ∷ ns → x.level ≡ l → y.level ≡ l → Formed nodes n ns x → Formed nodes n ns y → ((a b : Edge) → Fine nodes ns (l + 1) a → Fine nodes ns (l + 1) b → chart nodes ns a ≡ chart nodes ns b → a ≡ b) → flat_map (chart nodes ns) (take n x.edges) ≡ flat_map (chart nodes ns) (take n y.edges) → x ≡ y
  same_node l n ns x y at dx dy fx fy same h =
      let xs = take n x.edges in
      let ys = take n y.edges in
      let ax = subst (λ j. AllByRecursion (Fine nodes ns (j + 1)) xs) dx fx.kids in
      let ay = subst (λ j. AllByRecursion (Fine nodes ns (j + 1)) ys) dy fy.kids in
      let p = same_kids (chart nodes ns) (size ns) (Fine nodes ns (l + 1)) xs ys (fx.wide ∙ sym fy.wide) ax ay (kids_long nodes n ns xs (knows_kids l n ns xs at ax)) (kids_long nodes n ns ys (knows_kids l n ns ys at ay)) h same in
      let q = fx.rest ∙ sym fy.rest in
      node_path x y (dx ∙ sym dy) (fx.high ∙ ap (highest nodes ns) p ∙ sym fy.high) (sym (take-append-drop n x.edges) ∙ (λ i. p i ++ q i) ∙ take-append-drop n y.edges)

  -- edges of one level with the same chart
  pub same_edge : (ns : Shape) (l : ℕ) (e f : Edge) → drop l shape ≡ ns → Fine nodes ns l e → Fine nodes ns l f → chart nodes ns e ≡ chart nodes ns f → e ≡ f
  same_edge [] l e f at fe ff h = edge_path e f (sym (lesser_none e.weight) ∙ ap least h ∙ lesser_none f.weight) (fe ∙ sym ff)
  same_edge (n ∷ ns) l e f at fe ff h =
      let weights = sym (knows (n ∷ ns) l e at fe).low ∙ ap least h ∙ (knows (n ∷ ns) l f at ff).low in
      let bodies = sym (lowered_is l n ns e at fe) ∙ ap lowered h ∙ lowered_is l n ns f at ff in
      let x = node_at nodes e.child in
      let y = node_at nodes f.child in
      let same = same_node l n ns x y at fe.deep ff.deep (led l n ns e at fe) (led l n ns f at ff) (λ a b fa fb k. same_edge ns (l + 1) a b (tail_of shape l n ns at) fa fb k) bodies in
      edge_path e f weights (store.apart e.child f.child x y (slot_within nodes e.child fe.here) (slot_within nodes f.child ff.here) (some_at nodes e.child fe.here) (some_at nodes f.child ff.here) same)

  -- nodes with the same part
  pub node_known : (l n : ℕ) (ns : Shape) (x y : Node) → drop l shape ≡ n ∷ ns → x.level ≡ l → y.level ≡ l → Formed nodes n ns x → Formed nodes n ns y → flat_map (chart nodes ns) (take n x.edges) ≡ flat_map (chart nodes ns) (take n y.edges) → x ≡ y
  node_known l n ns x y at dx dy fx fy h = same_node l n ns x y at dx dy fx fy (λ a b fa fb k. same_edge ns (l + 1) a b (tail_of shape l n ns at) fa fb k) h

pub canonical : Canonical
canonical nodes shape store e f fe ff h = same_edge nodes shape store shape 0 e f refl fe ff h
