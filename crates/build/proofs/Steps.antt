-- The steps of any operation that builds a node kid by kid. Assumes nothing.
use Rattle.std.proofs.Common.{◌≡◌, ℕ, zero, suc, ◌+◌, ◌-◌, ◌*◌, ◌<◌, ◌≤◌, List, [], ◌∷◌, ◌++◌, length, get_or, take, drop, set, replicate, Option, sym, refl, ap, ◌∙◌, subst, inl, inr, suc-mul, arith, length-drop, take-append-drop, below_more}
use Rattle.std.specs.List.{AllByRecursion, flat_map}
use Rattle.std.proofs.lemmas.List.{drop_more, get_or-take, get_or-drop, get_or-replicate, ext_get_or, length-set, get_or-set_same, get_or-set_other, length-replicate, length-take-le}
use Rattle.nodes.specs.declared.edge.Edge.{Edge}
use Rattle.nodes.specs.declared.node.Node.{Node}
use Rattle.model.specs.Charts.{Chart}
use Rattle.model.specs.Lists.{In}
use Rattle.model.specs.Parts.{Part, parts, pieces}
use Rattle.model.specs.Scenes.{Shape, size}
use Rattle.parts.proofs.Pieces.{each_in}
use Rattle.store.specs.Stores.{none_edge, chart, Fine, Store}
use Rattle.store.specs.Fillings.{Stuck, name}
use Rattle.store.proofs.Grows.{fine_kept, chart_kept, name_kept}
use Rattle.build.specs.Builds.{Ready, Kids, Grows, together, piece, Partway}

-- pieces of a chart

pub length_pieces : (n m : ℕ) (c : Chart) → length (pieces n m c) ≡ n
length_pieces zero m c = refl
length_pieces (suc n) m c = ap suc (length_pieces n m (drop m c))

pub get_or_in : {A : Type 0} (xs : List A) (i : ℕ) (d : A) → i < length xs → In (get_or xs i d) xs
get_or_in [] i d l = absurd (omega arith)
get_or_in (x ∷ xs) zero d l = inl refl
get_or_in (x ∷ xs) (suc i) d l = inr (get_or_in xs i d (omega arith))

-- the parts of a piece are parts
pub piece_parts : (shape : Shape) (l : ℕ) (c : Chart) (i : ℕ) (p : Part) → l < length shape → i < get_or shape l 0 → In p (parts (drop (l + 1) shape) (l + 1) (piece shape l c i)) → In p (parts (drop l shape) l c)
piece_parts shape l c i p lt il h =
    let n = get_or shape l 0 in
    let ns = drop (l + 1) shape in
    let ps = pieces n (size ns) c in
    subst (λ t. In p (parts t l c)) (sym (drop_more shape l 0 lt)) (inr (each_in (parts ns (l + 1)) p (get_or ps i []) ps (get_or_in ps i [] (omega (arith, il, length_pieces n (size ns) c))) h))

-- growth after growth

-- no growth is growth
pub grows_none : (nodes : List (Option Node)) (shape : Shape) (l : ℕ) (c : Chart) → Ready nodes shape → Grows nodes nodes shape l c
grows_none nodes shape l c r = record { table = r.table; store = r.store; kept = λ k x p. p; grown = λ k x p. inl p; same = refl }

-- charts with the same parts
pub grows_alike : (old new : List (Option Node)) (shape : Shape) (l : ℕ) (c d : Chart) → parts (drop l shape) l c ≡ parts (drop l shape) l d → Grows old new shape l c → Grows old new shape l d
grows_alike old new shape l c d same g = record {
  table = g.table;
  store = g.store;
  kept = g.kept;
  same = g.same;
  grown = λ k x p. elim (g.grown k x p) [ inl q ↦ inl q | inr q ↦ inr (subst (In (name new shape k)) same q) ];
}

pub grows_then : (old mid new : List (Option Node)) (shape : Shape) (l m : ℕ) (c d : Chart) → Store old shape → ((p : Part) → In p (parts (drop m shape) m d) → In p (parts (drop l shape) l c)) → Grows old mid shape l c → Grows mid new shape m d → Grows old new shape l c
grows_then old mid new shape l m c d store sub g h = record {
  table = h.table;
  store = h.store;
  kept = λ k x p. h.kept k x (g.kept k x p);
  grown = λ k x p. elim (h.grown k x p) [
    | inl q ↦ elim (g.grown k x q) [ inl r ↦ inl r | inr r ↦ inr (subst (λ n. In n (parts (drop l shape) l c)) (sym (name_kept mid new h.kept shape g.store k x q)) r) ]
    | inr q ↦ inr (sub (name new shape k) q)
  ];
  same = h.same ∙ g.same;
}

pub stuck_wider : (nodes : List (Option Node)) (shape : Shape) (l m : ℕ) (c d : Chart) → ((p : Part) → In p (parts (drop m shape) m d) → In p (parts (drop l shape) l c)) → Stuck nodes shape m d → Stuck nodes shape l c
stuck_wider nodes shape l m c d sub n = record { taken = n.taken; part = n.part; within = sub n.part n.within; away = n.away }

-- the loop

module _ (old mid new : List (Option Node)) (shape : Shape) (l : ℕ) (c : Chart) (i : ℕ) (kids : List Edge) (before : Store old shape) (lt : l < length shape) (il : i < get_or shape l 0) (w : Partway old mid shape l c i kids) (g : Grows mid new shape (l + 1) (piece shape l c i)) where
  pub partway_grows : Grows old new shape l c
  partway_grows = grows_then old mid new shape l (l + 1) c (piece shape l c i) before (λ p h. piece_parts shape l c i p lt il h) w.grows g

  pub partway_stuck : Stuck new shape (l + 1) (piece shape l c i) → Stuck new shape l c
  partway_stuck n = stuck_wider new shape l (l + 1) c (piece shape l c i) (λ p h. piece_parts shape l c i p lt il h) n

  pub partway_more : (e : Edge) → get_or shape l 0 ≤ 8 → Fine new (drop (l + 1) shape) (l + 1) e → chart new (drop (l + 1) shape) e ≡ piece shape l c i → Partway old new shape l c (i + 1) (set kids i e)
  partway_more e few fine is =
      let ns = drop (l + 1) shape in
      let at : i < length kids = omega (arith, w.eight) in
      record {
        grows = partway_grows;
        eight = length-set kids i e ∙ w.eight;
        rest = λ k h. get_or-set_other kids i k e none_edge (omega arith) ∙ w.rest k (omega arith);
        done = below_more _ _
            (λ k h. subst (λ d. Fine new ns (l + 1) d × (chart new ns d ≡ piece shape l c k)) (sym (get_or-set_other kids i k e none_edge (omega arith)))
            (fine_kept mid new g.kept ns (l + 1) (get_or kids k none_edge) (w.done k h).0, chart_kept mid new g.kept shape w.grows.store ns (l + 1) (get_or kids k none_edge) refl (w.done k h).0 ∙ (w.done k h).1))
            (subst (λ d. Fine new ns (l + 1) d × (chart new ns d ≡ piece shape l c i)) (sym (get_or-set_same kids i e none_edge at)) (fine, is));
      }

-- the end

all_below : (P : Edge → Type 0) (es : List Edge) → ((k : ℕ) → k < length es → P (get_or es k none_edge)) → AllByRecursion P es
all_below P [] h = tt
all_below P (e ∷ es) h = (h 0 (omega arith), all_below P es (λ k l. h (suc k) (omega arith)))

glue : (n m : ℕ) (c : Chart) → length c ≡ n * m → (f : Edge → Chart) (es : List Edge) → length es ≡ n → ((k : ℕ) → k < n → f (get_or es k none_edge) ≡ get_or (pieces n m c) k []) → flat_map f es ≡ c
glue zero m [] h f [] e s = refl
glue zero m (x ∷ c) h f [] e s = absurd (omega arith)
glue zero m c h f (y ∷ es) e s = absurd (omega arith)
glue (suc n) m c h f [] e s = absurd (omega arith)
glue (suc n) m c h f (y ∷ es) e s =
    let p : f y ≡ take m c = s 0 (omega arith) in
    let q = glue n m (drop m c) (length-drop m c ∙ omega (arith, h, suc-mul n m)) f es (omega arith) (λ k l. s (suc k) (omega arith)) in
    (λ i. p i ++ q i) ∙ take-append-drop m c

module _ (old mid : List (Option Node)) (shape : Shape) (l : ℕ) (c : Chart) (kids : List Edge) (few : get_or shape l 0 ≤ 8) (w : Partway old mid shape l c (get_or shape l 0) kids) where
  front : (k : ℕ) → k < get_or shape l 0 → get_or (take (get_or shape l 0) kids) k none_edge ≡ get_or kids k none_edge
  front k h = get_or-take (get_or shape l 0) kids k none_edge h

  long : length (take (get_or shape l 0) kids) ≡ get_or shape l 0
  long = length-take-le (get_or shape l 0) kids (omega (arith, w.eight))

  pub partway_kids : Kids mid (get_or shape l 0) (drop (l + 1) shape) l kids
  partway_kids =
      let n = get_or shape l 0 in
      let ns = drop (l + 1) shape in
      record {
        eight = w.eight;
        fine = all_below (Fine mid ns (l + 1)) (take n kids) (λ k h. let h' : k < n = omega (arith, h, long) in subst (Fine mid ns (l + 1)) (sym (front k h')) (w.done k h').0);
        rest = ext_get_or none_edge (drop n kids) (replicate (8 - n) none_edge) (length-drop n kids ∙ ap (λ m. m - n) w.eight ∙ sym (length-replicate (8 - n) none_edge))
            (λ k h. get_or-drop n kids k none_edge ∙ w.rest (n + k) (omega arith) ∙ sym (get_or-replicate (8 - n) k none_edge none_edge (omega (arith, h, length-drop n kids, w.eight))));
      }

  pub partway_all : length c ≡ get_or shape l 0 * size (drop (l + 1) shape) → together mid shape l kids ≡ c
  partway_all n = glue (get_or shape l 0) (size (drop (l + 1) shape)) c n (chart mid (drop (l + 1) shape)) (take (get_or shape l 0) kids) long (λ k h. ap (chart mid (drop (l + 1) shape)) (front k h) ∙ (w.done k h).1)
