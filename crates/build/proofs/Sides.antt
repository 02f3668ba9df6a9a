-- An edge with a time, its node and its kids, and edges that are raised. Assumes nothing.
use Rattle.std.proofs.Common.{◌≡◌, ℕ, zero, suc, ◌+◌, ◌*◌, ◌<◌, ◌≤◌, false, ◌⊎◌, List, [], ◌∷◌, length, get_or, take, drop, Some, None, Option, sym, refl, ap, ◌∙◌, subst, inl, inr, arith}
use lib.ListN.{length-map}
use Rattle.std.specs.List.{AllByRecursion, flat_map}
use Rattle.std.proofs.lemmas.Bool.{ltb-false, le-ltb, cases_lt, or_parts, or_from}
use Rattle.std.proofs.lemmas.List.{drop_more, get_or-take, get_or-map}
use Rattle.std.proofs.ByRecursion.{All-weaker}
use Rattle.nodes.specs.declared.edge.Edge.{Edge}
use Rattle.nodes.specs.declared.node.Node.{Node}
use Rattle.model.specs.Charts.{Time, Chart, plus, lesser, late}
use Rattle.model.specs.Limits.{greatest_time}
use Rattle.model.specs.Lists.{some}
use Rattle.model.specs.Parts.{least, pieces}
use Rattle.model.specs.Scenes.{Shape, size}
use Rattle.model.proofs.Testing.{none_take, none_drop}
use Rattle.parts.specs.Shifts.{later, zeroed}
use Rattle.parts.proofs.Pieces.{map_each, pieces_each, all_in, least_later}
use Rattle.store.specs.Stores.{none_edge, node_at, chart, body, Leads, Fine, Formed, Store}
use Rattle.store.proofs.Canon.{led, kids_of, knows, knows_kids, kids_long}
use Rattle.store.proofs.Greatest.{plus_zero}
use Rattle.build.specs.Builds.{raised, piece, Legal, Stands}
use Rattle.build.proofs.Weights.{later_later}
use Rattle.build.proofs.Makes.{late_less}
use Rattle.build.proofs.Steps.{get_or_in}

-- What is late

lesser_either : (x y : Time) → (lesser x y ≡ x) ⊎ (lesser x y ≡ y)
lesser_either None y = inr refl
lesser_either (Some x) None = inl refl
lesser_either (Some x) (Some y) = elim (cases_lt x y) [ inl l ↦ inl (ap {B = Time} Some (omega arith)) | inr l ↦ inr (ap {B = Time} Some (omega arith)) ]

pub least_timely : (c : Chart) → some late c ≡ false → late (least c) ≡ false
least_timely [] h = refl
least_timely (x ∷ c) h =
    let p = or_parts (late x) (some late c) h in
    elim (lesser_either x (least c)) [ inl e ↦ ap late e ∙ p.0 | inr e ↦ ap late e ∙ least_timely c p.1 ]

pieces_timely : (n m k : ℕ) (c : Chart) → some late c ≡ false → some late (get_or (pieces n m c) k []) ≡ false
pieces_timely zero m k c h = refl
pieces_timely (suc n) m zero c h = none_take late m c h
pieces_timely (suc n) m (suc k) c h = pieces_timely n m k (drop m c) (none_drop late m c h)

pub piece_timely : (shape : Shape) (l : ℕ) (c : Chart) (k : ℕ) → some late c ≡ false → some late (piece shape l c k) ≡ false
piece_timely shape l c k h = pieces_timely (get_or shape l 0) (size (drop (l + 1) shape)) k c h

late_lower : (v w : ℕ) (x : Time) → v ≤ w → late (plus (Some w) x) ≡ false → late (plus (Some v) x) ≡ false
late_lower v w None le h = refl
late_lower v w (Some x) le h = le-ltb greatest_time (v + x) (omega (arith, ltb-false greatest_time (w + x) h))

-- a chart that is less late
pub lower_timely : (v w : ℕ) (c : Chart) → v ≤ w → some late (later (Some w) c) ≡ false → some late (later (Some v) c) ≡ false
lower_timely v w [] le h = refl
lower_timely v w (x ∷ c) le h =
    let p = or_parts (late (plus (Some w) x)) (some late (later (Some w) c)) h in
    or_from (late (plus (Some v) x)) (some late (later (Some v) c)) (late_lower v w x le p.0) (lower_timely v w c le p.1)

pub earlier_timely : (w : ℕ) (c : Chart) → some late (later (Some w) c) ≡ false → some late c ≡ false
earlier_timely w [] h = refl
earlier_timely w (x ∷ c) h =
    let p = or_parts (late (plus (Some w) x)) (some late (later (Some w) c)) h in
    or_from (late x) (some late c) (late_less w x p.0) (earlier_timely w c p.1)

pub weight_timely : (nodes : List (Option Node)) (shape : Shape) → Store nodes shape → (l : ℕ) (e : Edge) → Fine nodes (drop l shape) l e → some late (chart nodes (drop l shape) e) ≡ false → late e.weight ≡ false
weight_timely nodes shape store l e f h = ap late (sym (knows nodes shape store (drop l shape) l e refl f).low) ∙ least_timely (chart nodes (drop l shape) e) h

-- Raised edges

zeroed_plus : (v : ℕ) (w : Time) → zeroed (plus (Some v) w) ≡ zeroed w
zeroed_plus v None = refl
zeroed_plus v (Some w) = refl

pub raised_fine : (nodes : List (Option Node)) (ns : Shape) (l v : ℕ) (e : Edge) → Fine nodes ns l e → Fine nodes ns l (raised (Some v) e)
raised_fine nodes [] l v e f = f
raised_fine nodes (n ∷ ns) l v e f = record { here = f.here; deep = f.deep; low = zeroed_plus v e.weight ∙ f.low }

pub raised_chart : (nodes : List (Option Node)) (ns : Shape) (w : Time) (e : Edge) → later w (chart nodes ns e) ≡ chart nodes ns (raised w e)
raised_chart nodes [] w e = refl
raised_chart nodes (n ∷ ns) w e = later_later w e.weight (flat_map (chart nodes ns) (take n (node_at nodes e.child).edges))

-- an edge without a weight is one raised by never
pub never_chart : (nodes : List (Option Node)) (ns : Shape) (e : Edge) → e.weight ≡ None → chart nodes ns e ≡ later None (chart nodes ns e)
never_chart nodes ns e none = ap (chart nodes ns) (λ i. record { weight = none i; child = e.child }) ∙ sym (raised_chart nodes ns None e)

-- the same child with another time
pub moved_fine : (nodes : List (Option Node)) (ns : Shape) (l w v : ℕ) (e : Edge) → e.weight ≡ Some w → Fine nodes ns l e → Fine nodes ns l (record { weight = Some v; child = e.child })
moved_fine nodes [] l w v e h f = f
moved_fine nodes (n ∷ ns) l w v e h f = record { here = f.here; deep = f.deep; low = sym (ap zeroed h) ∙ f.low }

-- an edge with a time, as one with 0 that is later
pub from_zero : (nodes : List (Option Node)) (ns : Shape) (w : ℕ) (e : Edge) → e.weight ≡ Some w → chart nodes ns e ≡ later (Some w) (chart nodes ns (record { weight = Some 0; child = e.child }))
from_zero nodes ns w e h =
    let p : e.weight ≡ plus (Some w) (Some 0) = h ∙ sym (plus_zero (Some w)) in
    ap (λ v. chart nodes ns (record { weight = v; child = e.child })) p ∙ sym (raised_chart nodes ns (Some w) (record { weight = Some 0; child = e.child }))

module _ (nodes : List (Option Node)) (shape : Shape) (store : Store nodes shape) (l : ℕ) (e : Edge) (core whole : Chart) (base : ℕ) (st : Stands nodes shape l core e) (is : whole ≡ later (Some base) core) where
  -- what is raised to stand for a chart that is not late is not late
  pub raise_timely : some late whole ≡ false → late (plus (Some base) e.weight) ≡ false
  raise_timely h =
      ap (λ v. late (plus (Some base) v)) (sym (knows nodes shape store (drop l shape) l e refl st.0).low ∙ ap least st.1)
      ∙ ap late (sym (least_later (Some base) core) ∙ ap least (sym is)) ∙ least_timely whole h

  pub raise_stands : (r : Edge) → r ≡ raised (Some base) e → Stands nodes shape l whole r
  raise_stands r same = subst (λ d. Stands nodes shape l whole d) (sym same) (raised_fine nodes (drop l shape) l base e st.0, sym (raised_chart nodes (drop l shape) (Some base) e) ∙ ap (later (Some base)) st.1 ∙ sym is)

-- An edge with a time and its node

all_later : (f : Edge → Chart) (m : ℕ) (w : Time) (es : List Edge) → AllByRecursion (λ e. length (f e) ≡ m) es → AllByRecursion (λ e. length (later w (f e)) ≡ m) es
all_later f m w es a = All-weaker (λ e. length (f e) ≡ m) (λ e. length (later w (f e)) ≡ m) (λ e h. length-map (f e) (plus w) ∙ h) es a

module _ (nodes : List (Option Node)) (shape : Shape) (store : Store nodes shape) (l : ℕ) (lt : l < length shape) (a : Edge) (w : ℕ) (x : Node) (fine : Fine nodes (drop l shape) l a) (weight : a.weight ≡ Some w) (here : x ≡ node_at nodes a.child) where
  leads : Leads nodes (get_or shape l 0) l a
  leads = subst (λ t. Fine nodes t l a) (drop_more shape l 0 lt) fine

  pub side_formed : Formed nodes (get_or shape l 0) (drop (l + 1) shape) x
  side_formed = subst (Formed nodes (get_or shape l 0) (drop (l + 1) shape)) (sym here) (led nodes shape store l (get_or shape l 0) (drop (l + 1) shape) a (drop_more shape l 0 lt) leads)

  all_kids : AllByRecursion (Fine nodes (drop (l + 1) shape) (l + 1)) (take (get_or shape l 0) x.edges)
  all_kids = subst (λ y. AllByRecursion (Fine nodes (drop (l + 1) shape) (l + 1)) (take (get_or shape l 0) y.edges)) (sym here) (kids_of nodes shape store l (get_or shape l 0) (drop (l + 1) shape) a (drop_more shape l 0 lt) leads)

  pub side_chart : chart nodes (drop l shape) a ≡ later (Some w) (body nodes (drop l shape) x)
  side_chart =
      let at = drop_more shape l 0 lt in
      subst (λ t. chart nodes t a ≡ later (Some w) (body nodes t x)) (sym at)
      (ap (λ v. later v (flat_map (chart nodes (drop (l + 1) shape)) (take (get_or shape l 0) (node_at nodes a.child).edges))) weight
      ∙ ap (λ y. later (Some w) (flat_map (chart nodes (drop (l + 1) shape)) (take (get_or shape l 0) y.edges))) (sym here))

  pub side_long : length (later (Some w) (body nodes (drop l shape) x)) ≡ get_or shape l 0 * size (drop (l + 1) shape)
  side_long = sym (ap length side_chart) ∙ (knows nodes shape store (drop l shape) l a refl fine).long ∙ ap size (drop_more shape l 0 lt)

  module _ (k : ℕ) (kl : k < get_or shape l 0) where
    pub side_fine : Fine nodes (drop (l + 1) shape) (l + 1) (raised (Some w) (get_or x.edges k none_edge))
    side_fine =
        let n = get_or shape l 0 in
        let ns = drop (l + 1) shape in
        raised_fine nodes ns (l + 1) w (get_or x.edges k none_edge) (subst (Fine nodes ns (l + 1)) (get_or-take n x.edges k none_edge kl) (all_in (Fine nodes ns (l + 1)) (get_or (take n x.edges) k none_edge) (take n x.edges) all_kids (get_or_in (take n x.edges) k none_edge (omega (arith, kl, side_formed.wide)))))

    pub side_piece : piece shape l (later (Some w) (body nodes (drop l shape) x)) k ≡ chart nodes (drop (l + 1) shape) (raised (Some w) (get_or x.edges k none_edge))
    side_piece =
        let n = get_or shape l 0 in
        let ns = drop (l + 1) shape in
        let es = take n x.edges in
        let at = drop_more shape l 0 lt in
        let known = knows_kids nodes shape store l n ns es at all_kids in
        let f = λ (e : Edge). later (Some w) (chart nodes ns e) in
        let p : later (Some w) (body nodes (drop l shape) x) ≡ flat_map f es = ap (λ t. later (Some w) (body nodes t x)) at ∙ map_each (plus (Some w)) (chart nodes ns) es in
        let q = pieces_each f (size ns) es (all_later (chart nodes ns) (size ns) (Some w) es (kids_long nodes n ns es known)) in
        ap (λ c. get_or (pieces n (size ns) c) k []) p
        ∙ ap (λ m. get_or (pieces m (size ns) (flat_map f es)) k []) (sym side_formed.wide)
        ∙ ap (λ ps. get_or ps k []) q
        ∙ get_or-map f es k none_edge [] (omega (arith, kl, side_formed.wide))
        ∙ raised_chart nodes ns (Some w) (get_or es k none_edge)
        ∙ ap (λ e. chart nodes ns (raised (Some w) e)) (get_or-take n x.edges k none_edge kl)

    side_kid_timely : some late (chart nodes (drop l shape) a) ≡ false → some late (chart nodes (drop (l + 1) shape) (raised (Some w) (get_or x.edges k none_edge))) ≡ false
    side_kid_timely h = ap (some late) (sym side_piece) ∙ piece_timely shape l (later (Some w) (body nodes (drop l shape) x)) k (ap (some late) (sym side_chart) ∙ h)

    -- the edge for a setting, raised: its chart, and that it is legal
    pub side_kid : piece shape l (chart nodes (drop l shape) a) k ≡ chart nodes (drop (l + 1) shape) (raised (Some w) (get_or x.edges k none_edge))
    side_kid = ap (λ c. piece shape l c k) side_chart ∙ side_piece

    pub side_legal : some late (chart nodes (drop l shape) a) ≡ false → Legal nodes shape (l + 1) (raised (Some w) (get_or x.edges k none_edge))
    side_legal h = record { fine = side_fine; timely = side_kid_timely h }

    pub side_timely : some late (chart nodes (drop l shape) a) ≡ false → late (plus (Some w) (get_or x.edges k none_edge).weight) ≡ false
    side_timely h = weight_timely nodes shape store (l + 1) (raised (Some w) (get_or x.edges k none_edge)) side_fine (side_kid_timely h)
