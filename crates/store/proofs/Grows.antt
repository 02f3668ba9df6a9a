-- A store that only grows. Assumes nothing.
use Rattle.std.proofs.Common.{◌≡◌, ℕ, ◌+◌, true, List, [], ◌∷◌, ◌++◌, take, drop, is_some, Some, Option, sym, refl, ap, ◌∙◌}
use Rattle.std.specs.List.{AllByRecursion, flat_map}
use Rattle.std.proofs.ByRecursion.{All-weaker}
use Rattle.table.specs.Tables.{slot, Kept}
use Rattle.nodes.specs.declared.edge.Edge.{Edge}
use Rattle.nodes.specs.declared.node.Node.{Node}
use Rattle.model.specs.Charts.{plus, greater}
use Rattle.model.specs.Scenes.{Shape}
use Rattle.parts.specs.Shifts.{later}
use Rattle.store.specs.Stores.{node_in, node_at, lowest, chart, body, below, highest, Fine, Formed, Proper, Store}
use Rattle.store.specs.Fillings.{name_of, name}
use Rattle.store.proofs.Canon.{tail_of, some_at, formed_at, kids_of}

each_all : {A B : Type 0} (f g : A → List B) (l : List A) → AllByRecursion (λ x. f x ≡ g x) l → flat_map f l ≡ flat_map g l
each_all f g [] a = refl
each_all f g (x ∷ xs) a = let p = a.0 in let q = each_all f g xs a.1 in λ i. p i ++ q i

module _ (old new : List (Option Node)) (kept : Kept old new) where
  pub slot_kept : (k : ℕ) → is_some (slot old k) ≡ true → slot new k ≡ slot old k
  slot_kept k h = kept k (node_at old k) (some_at old k h) ∙ sym (some_at old k h)

  pub node_kept : (k : ℕ) → is_some (slot old k) ≡ true → node_at new k ≡ node_at old k
  node_kept k h = ap node_in (slot_kept k h)

  pub fine_kept : (ns : Shape) (l : ℕ) (e : Edge) → Fine old ns l e → Fine new ns l e
  fine_kept [] l e f = f
  fine_kept (n ∷ ns) l e f =
      let p = node_kept e.child f.here in
      record {
        here = ap is_some (slot_kept e.child f.here) ∙ f.here;
        deep = ap (λ x. x.level) p ∙ f.deep;
        low = f.low ∙ sym (ap (λ x. lowest (take n x.edges)) p);
      }

  pub below_kept : (ns : Shape) (l : ℕ) (e : Edge) → Fine old ns l e → below new ns e ≡ below old ns e
  below_kept [] l e f = refl
  below_kept (n ∷ ns) l e f = ap (λ x. x.most) (node_kept e.child f.here)

  pub highest_kept : (ns : Shape) (l : ℕ) (es : List Edge) → AllByRecursion (Fine old ns l) es → highest new ns es ≡ highest old ns es
  highest_kept ns l [] a = refl
  highest_kept ns l (e ∷ es) a =
      let p = below_kept ns l e a.0 in
      let q = highest_kept ns l es a.1 in
      λ i. greater (plus e.weight (p i)) (q i)

  pub formed_kept : (n : ℕ) (ns : Shape) (x : Node) → Formed old n ns x → Formed new n ns x
  formed_kept n ns x f = record {
    wide = f.wide;
    rest = f.rest;
    low = f.low;
    high = f.high ∙ sym (highest_kept ns (x.level + 1) (take n x.edges) f.kids);
    kids = All-weaker (Fine old ns (x.level + 1)) (Fine new ns (x.level + 1)) (λ e g. fine_kept ns (x.level + 1) e g) (take n x.edges) f.kids;
  }

  pub proper_kept : (ns : Shape) (x : Node) → Proper old ns x → Proper new ns x
  proper_kept [] x p = p
  proper_kept (n ∷ ns) x p = formed_kept n ns x p

  module _ (shape : Shape) (store : Store old shape) where
    pub chart_kept : (ns : Shape) (l : ℕ) (e : Edge) → drop l shape ≡ ns → Fine old ns l e → chart new ns e ≡ chart old ns e
    chart_kept [] l e at f = refl
    chart_kept (n ∷ ns) l e at f =
        let es = take n (node_at old e.child).edges in
        ap (λ x. later e.weight (flat_map (chart new ns) (take n x.edges))) (node_kept e.child f.here)
        ∙ ap (later e.weight) (each_all (chart new ns) (chart old ns) es (All-weaker (Fine old ns (l + 1)) (λ k. chart new ns k ≡ chart old ns k) (λ k g. chart_kept ns (l + 1) k (tail_of shape l n ns at) g) es (kids_of old shape store l n ns e at f)))

    pub body_kept : (l n : ℕ) (ns : Shape) (x : Node) → drop l shape ≡ n ∷ ns → x.level ≡ l → Formed old n ns x → flat_map (chart new ns) (take n x.edges) ≡ flat_map (chart old ns) (take n x.edges)
    body_kept l n ns x at deep f = each_all (chart new ns) (chart old ns) (take n x.edges) (All-weaker (Fine old ns (x.level + 1)) (λ k. chart new ns k ≡ chart old ns k) (λ k g. chart_kept ns (x.level + 1) k (tail_of shape x.level n ns (ap (λ j. drop j shape) deep ∙ at)) g) (take n x.edges) f.kids)

    body_kept_at : (k : ℕ) (x : Node) (ns : Shape) → drop x.level shape ≡ ns → slot old k ≡ Some x → body new ns x ≡ body old ns x
    body_kept_at k x [] at here = refl
    body_kept_at k x (n ∷ ns) at here = body_kept x.level n ns x at refl (formed_at old shape store k x.level n ns x at here refl)

    pub name_kept : (k : ℕ) (x : Node) → slot old k ≡ Some x → name new shape k ≡ name old shape k
    name_kept k x here =
        let p = body_kept_at k x (drop x.level shape) refl here in
        ap (λ o. name_of new shape (node_in o)) (kept k x here) ∙ (λ i. record { fixed = x.level; chart = p i }) ∙ sym (ap (λ o. name_of old shape (node_in o)) here)
