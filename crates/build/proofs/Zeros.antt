-- When an edge's chart is 0 throughout. Assumes nothing.
use Rattle.std.proofs.Common.{◌≡◌, ℕ, zero, suc, ◌+◌, ◌*◌, ◌<◌, ◌≤◌, List, [], ◌∷◌, ◌++◌, length, get_or, take, drop, Some, None, Option, sym, refl, ap, ◌∙◌, subst, arith, ◌-◌}
use Rattle.std.specs.List.{AllByRecursion, flat_map}
use Rattle.std.proofs.ByRecursion.{All-weaker}
use Rattle.std.proofs.lemmas.Nat.{mul-le}
use Rattle.std.proofs.lemmas.List.{drop_more, drop_all, get_or-take}
use Rattle.nodes.specs.declared.edge.Edge.{Edge}
use Rattle.nodes.specs.declared.node.Node.{Node}
use Rattle.model.specs.Charts.{Chart, plus, lesser}
use Rattle.model.specs.Parts.{least}
use Rattle.model.specs.Scenes.{Shape, size}
use Rattle.parts.specs.Shifts.{later}
use Rattle.parts.proofs.Pieces.{all_in}
use Rattle.store.specs.Stores.{none_edge, node_at, chart, Leads, Fine, Formed}
use Rattle.store.proofs.Canon.{led, kids_of, knows, knows_kids, kids_long, same_edge}
use Rattle.build.specs.Builds.{Ready}
use Rattle.build.specs.Zeros.{Zero}
use Rattle.build.proofs.Steps.{get_or_in}

-- Charts

zero_append : (xs ys : Chart) → Zero xs → Zero ys → Zero (xs ++ ys)
zero_append [] ys a b = b
zero_append (x ∷ xs) ys a b = (a.0, zero_append xs ys a.1 b)

zero_parts : (xs ys : Chart) → Zero (xs ++ ys) → Zero xs × Zero ys
zero_parts [] ys h = (tt, h)
zero_parts (x ∷ xs) ys h =
    let p = zero_parts xs ys h.1 in
    ((h.0, p.0), p.1)

zero_all : (f : Edge → Chart) (es : List Edge) → AllByRecursion (λ e. Zero (f e)) es → Zero (flat_map f es)
zero_all f [] h = tt
zero_all f (e ∷ es) h = zero_append (f e) (flat_map f es) h.0 (zero_all f es h.1)

zero_each : (f : Edge → Chart) (es : List Edge) → Zero (flat_map f es) → AllByRecursion (λ e. Zero (f e)) es
zero_each f [] h = tt
zero_each f (e ∷ es) h =
    let p = zero_parts (f e) (flat_map f es) h in
    (p.0, zero_each f es p.1)

not_later : (c : Chart) → later (Some 0) c ≡ c
not_later [] = refl
not_later (None ∷ c) = λ i. None ∷ not_later c i
not_later (Some x ∷ c) =
    let none : 0 + x ≡ x = omega arith in
    λ i. Some (none i) ∷ not_later c i

zero_same : (c d : Chart) → length c ≡ length d → Zero c → Zero d → c ≡ d
zero_same [] [] n h k = refl
zero_same [] (y ∷ d) n h k = absurd (omega (arith, n))
zero_same (x ∷ c) [] n h k = absurd (omega (arith, n))
zero_same (x ∷ c) (y ∷ d) n h k =
    let p = h.0 ∙ sym k.0 in
    let q = zero_same c d (omega (arith, n)) h.1 k.1 in
    λ i. p i ∷ q i

zero_least : (c : Chart) → 1 ≤ length c → Zero c → least c ≡ Some 0
zero_least [] n h = absurd (omega (arith, n))
zero_least (x ∷ []) n h = ap (λ t. lesser t None) h.0
zero_least (x ∷ y ∷ c) n h =
    let p = h.0 in
    let q = zero_least (y ∷ c) (omega arith) h.1 in
    λ i. lesser (p i) (q i)

some_size : (shape : Shape) → ((k : ℕ) → k < length shape → 1 ≤ get_or shape k 0) → (k l : ℕ) → l + k ≡ length shape → 1 ≤ size (drop l shape)
some_size shape some zero l e = omega (arith, ap size (drop_all l shape (omega (arith, e))))
some_size shape some (suc k) l e =
    let lt : l < length shape = omega (arith, e) in
    omega (arith, ap size (drop_more shape l 0 lt), mul-le 1 1 (get_or shape l 0) (size (drop (l + 1) shape)) (some l lt) (some_size shape some k (l + 1) (omega (arith, e))))

-- Edges

module _ (nodes : List (Option Node)) (shape : Shape) (ready : Ready nodes shape) (l : ℕ) (e : Edge) (fine : Fine nodes (drop l shape) l e) where
  pub zero_weight : l ≤ length shape → Zero (chart nodes (drop l shape) e) → e.weight ≡ Some 0
  zero_weight le h =
      let known = knows nodes shape ready.store (drop l shape) l e refl fine in
      sym known.low ∙ zero_least (chart nodes (drop l shape) e) (omega (arith, known.long, some_size shape ready.some (length shape - l) l (omega (arith, le)))) h

  pub zero_leaf : l ≡ length shape → e.weight ≡ Some 0 → Zero (chart nodes (drop l shape) e)
  zero_leaf at h = subst (λ t. Zero (chart nodes t e)) (sym (drop_all l shape (omega (arith, at)))) (h, tt)

  module _ (lt : l < length shape) where
    abbrev count : ℕ
    count = get_or shape l 0

    abbrev rest : Shape
    rest = drop (l + 1) shape

    abbrev kids : List Edge
    kids = take count (node_at nodes e.child).edges

    abbrev first : Edge
    first = get_or (node_at nodes e.child).edges 0 none_edge

    leads : Leads nodes count l e
    leads = subst (λ t. Fine nodes t l e) (drop_more shape l 0 lt) fine

    formed : Formed nodes count rest (node_at nodes e.child)
    formed = led nodes shape ready.store l count rest e (drop_more shape l 0 lt) leads

    all_fine : AllByRecursion (Fine nodes rest (l + 1)) kids
    all_fine = kids_of nodes shape ready.store l count rest e (drop_more shape l 0 lt) leads

    first_of : (P : Edge → Type 0) → AllByRecursion P kids → P first
    first_of P h = subst P (get_or-take count (node_at nodes e.child).edges 0 none_edge (ready.some l lt)) (all_in P (get_or kids 0 none_edge) kids h (get_or_in kids 0 none_edge (omega (arith, ready.some l lt, formed.wide))))

    pub first_fine : Fine nodes rest (l + 1) first
    first_fine = first_of (Fine nodes rest (l + 1)) all_fine

    whole : e.weight ≡ Some 0 → chart nodes (drop l shape) e ≡ flat_map (chart nodes rest) kids
    whole h = ap (λ t. chart nodes t e) (drop_more shape l 0 lt) ∙ ap (λ w. later w (flat_map (chart nodes rest) kids)) h ∙ not_later (flat_map (chart nodes rest) kids)

    pub zero_from : e.weight ≡ Some 0 → AllByRecursion (λ k. k ≡ first) kids → Zero (chart nodes rest first) → Zero (chart nodes (drop l shape) e)
    zero_from h same z = subst Zero (sym (whole h)) (zero_all (chart nodes rest) kids (All-weaker (λ k. k ≡ first) (λ k. Zero (chart nodes rest k)) (λ k p. subst (λ d. Zero (chart nodes rest d)) (sym p) z) kids same))

    each : e.weight ≡ Some 0 → Zero (chart nodes (drop l shape) e) → AllByRecursion (λ k. Zero (chart nodes rest k)) kids
    each h z = zero_each (chart nodes rest) kids (subst Zero (whole h) z)

    pub zero_first : e.weight ≡ Some 0 → Zero (chart nodes (drop l shape) e) → Zero (chart nodes rest first)
    zero_first h z = first_of (λ k. Zero (chart nodes rest k)) (each h z)

    -- edges of one level that are 0 throughout are one
    alike : (k : Edge) → Fine nodes rest (l + 1) k → Zero (chart nodes rest k) → Zero (chart nodes rest first) → k ≡ first
    alike k f z y =
        let long = (knows nodes shape ready.store rest (l + 1) k refl f).long ∙ sym (knows nodes shape ready.store rest (l + 1) first refl first_fine).long in
        same_edge nodes shape ready.store rest (l + 1) k first refl f first_fine (zero_same (chart nodes rest k) (chart nodes rest first) long z y)

    all_alike : (ks : List Edge) → AllByRecursion (Fine nodes rest (l + 1)) ks → AllByRecursion (λ k. Zero (chart nodes rest k)) ks → Zero (chart nodes rest first) → AllByRecursion (λ k. k ≡ first) ks
    all_alike [] f z y = tt
    all_alike (k ∷ ks) f z y = (alike k f.0 z.0 y, all_alike ks f.1 z.1 y)

    pub zero_alike : e.weight ≡ Some 0 → Zero (chart nodes (drop l shape) e) → AllByRecursion (λ k. k ≡ first) kids
    zero_alike h z = all_alike kids all_fine (each h z) (zero_first h z)
