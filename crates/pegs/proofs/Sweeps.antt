-- The steps of a sweep: what pegs carry, and its copy in another store, peg by peg. Assumes nothing.
use Rattle.std.proofs.Common.{◌≡◌, ℕ, ◌+◌, ◌<◌, ◌≤◌, List, [], ◌∷◌, ◌++◌, map, length, get_or, take, drop, set, Some, None, Option, sym, refl, ap, ◌∙◌, subst, inl, inr, arith}
use mathlib.Core.List.{map-append}
use Rattle.std.specs.List.{AllByRecursion, flat_map}
use Rattle.std.proofs.lemmas.List.Elements.{All-from_recursion, recursion_from_All, All-push}
use Rattle.std.proofs.lemmas.List.{take_more, take_more_set, drop-drop, drop-set-lt, get_or-drop}
use Rattle.std.proofs.ByRecursion.{All-weaker}
use Rattle.table.specs.Tables.{Kept}
use Rattle.nodes.specs.declared.edge.Edge.{Edge}
use Rattle.nodes.specs.declared.node.Node.{Node}
use Rattle.model.specs.Charts.{Chart, late}
use Rattle.model.specs.Lists.{In, some}
use Rattle.model.specs.Parts.{parts, parts_of_all}
use Rattle.model.specs.Scenes.{Shape}
use Rattle.model.specs.Shelves.{charts}
use Rattle.parts.proofs.Counts.{in_cast}
use Rattle.parts.proofs.Pieces.{all_in, each_in}
use Rattle.store.specs.Stores.{chart, Fine, Store}
use Rattle.store.specs.Fillings.{Stuck, Owned, name}
use Rattle.store.proofs.Grows.{fine_kept, chart_kept, name_kept}
use Rattle.store.proofs.Fits.{roomy, overfull}
use Rattle.build.specs.Builds.{Built}
use Rattle.build.specs.Grew.{nodes_in, shape_in, Grew}
use Rattle.build.specs.declared.node_store.NodeStore.{NodeStore}
use Rattle.build.proofs.Steps.{get_or_in}
use Rattle.pegs.specs.Held.{peg_chart, pegs_of, peg_fine, CopiesPeg, Swept}

-- Pegs

-- the edges on the pegs
abbrev pub edges_on : List (Option Edge) → List Edge
edges_on [] = []
edges_on (None ∷ ps) = edges_on ps
edges_on (Some e ∷ ps) = e ∷ edges_on ps

pub charts_on : (nodes : List (Option Node)) (shape : Shape) (pegs : List (Option Edge)) → charts (pegs_of nodes shape pegs) ≡ map (chart nodes shape) (edges_on pegs)
charts_on nodes shape [] = refl
charts_on nodes shape (None ∷ ps) = charts_on nodes shape ps
charts_on nodes shape (Some e ∷ ps) = ap (λ t. chart nodes shape e ∷ t) (charts_on nodes shape ps)

pub fine_on : (nodes : List (Option Node)) (shape : Shape) (pegs : List (Option Edge)) → AllByRecursion (peg_fine nodes shape) pegs → AllByRecursion (Fine nodes shape 0) (edges_on pegs)
fine_on nodes shape [] a = tt
fine_on nodes shape (None ∷ ps) a = fine_on nodes shape ps a.1
fine_on nodes shape (Some e ∷ ps) a = (a.0.0, fine_on nodes shape ps a.1)

pub chart_in : (nodes : List (Option Node)) (shape : Shape) (pegs : List (Option Edge)) (e : Edge) → In (Some e) pegs → In (chart nodes shape e) (charts (pegs_of nodes shape pegs))
chart_in nodes shape [] e i = absurd i
chart_in nodes shape (None ∷ ps) e (inl h) = absurd (let z : ◌≡◌ {A = ℕ} 0 1 = cc in omega arith)
chart_in nodes shape (None ∷ ps) e (inr i) = chart_in nodes shape ps e i
chart_in nodes shape (Some d ∷ ps) e (inl h) = inl (let z : e ≡ d = cc in ap (chart nodes shape) z)
chart_in nodes shape (Some d ∷ ps) e (inr i) = inr (chart_in nodes shape ps e i)

pub held_room : (nodes : List (Option Node)) (shape : Shape) (pegs : List (Option Edge)) → Store nodes shape → AllByRecursion (peg_fine nodes shape) pegs → parts_of_all shape (charts (pegs_of nodes shape pegs)) ≤ length nodes
held_room nodes shape pegs store fine = subst (λ cs. parts_of_all shape cs ≤ length nodes) (sym (charts_on nodes shape pegs)) (roomy nodes shape store (edges_on pegs) (fine_on nodes shape pegs fine))

map_all : {A B : Type 0} (f g : A → B) (xs : List A) → AllByRecursion (λ x. f x ≡ g x) xs → map f xs ≡ map g xs
map_all f g [] a = refl
map_all f g (x ∷ xs) a = let p = a.0 in let q = map_all f g xs a.1 in λ i. p i ∷ q i

module _ (old new : List (Option Node)) (shape : Shape) (store : Store old shape) (kept : Kept old new) where
  peg_kept : (p : Option Edge) → peg_fine old shape p → (peg_fine new shape p) × (peg_chart new shape p ≡ peg_chart old shape p)
  peg_kept None f = (tt, refl)
  peg_kept (Some e) f =
      let q = chart_kept old new kept shape store shape 0 e refl f.0 in
      ((fine_kept old new kept shape 0 e f.0, ap (some late) q ∙ f.1), ap {B = Option Chart} Some q)

  pub pegs_fine_kept : (pegs : List (Option Edge)) → AllByRecursion (peg_fine old shape) pegs → AllByRecursion (peg_fine new shape) pegs
  pegs_fine_kept pegs a = All-weaker (peg_fine old shape) (peg_fine new shape) (λ p f. (peg_kept p f).0) pegs a

  pub pegs_kept : (pegs : List (Option Edge)) → AllByRecursion (peg_fine old shape) pegs → pegs_of new shape pegs ≡ pegs_of old shape pegs
  pegs_kept pegs a = map_all (peg_chart new shape) (peg_chart old shape) pegs (All-weaker (peg_fine old shape) (λ p. peg_chart new shape p ≡ peg_chart old shape p) (λ p f. (peg_kept p f).1) pegs a)

-- The sweep

module _ (source : List (Option Node)) (spare new : NodeStore) (old pegs : List (Option Edge)) (i : ℕ) (whole : Store source (shape_in spare)) (held : AllByRecursion (peg_fine source (shape_in spare)) old) (il : i < length pegs) (w : Swept source (nodes_in spare) (shape_in spare) old pegs i) where
  abbrev shape : Shape
  shape = shape_in spare

  store : Store (nodes_in spare) shape
  store = spare.ready.store

  next_is : get_or pegs i None ≡ get_or old i None
  next_is = ap (λ n. get_or pegs n None) (let z : i ≡ i + 0 = omega arith in z) ∙ sym (get_or-drop i pegs 0 None) ∙ ap (λ t. get_or t 0 None) w.rest ∙ get_or-drop i old 0 None ∙ ap (λ n. get_or old n None) (let z : i + 0 ≡ i = omega arith in z)

  next_old : In (get_or pegs i None) old
  next_old = subst (λ p. In p old) (sym next_is) (get_or_in old i None (omega (arith, il, w.long)))

  pub next_fine : peg_fine source shape (get_or pegs i None)
  next_fine = all_in (peg_fine source shape) (get_or pegs i None) old held next_old

  -- one peg more, given its copy in a store that has grown by its parts
  more : (r : Option Edge) → Kept (nodes_in spare) (nodes_in new) → length (nodes_in new) ≡ length (nodes_in spare) → Owned (nodes_in new) shape (charts (pegs_of source shape old)) → peg_fine (nodes_in new) shape r → peg_chart (nodes_in new) shape r ≡ peg_chart source shape (get_or pegs i None) → Swept source (nodes_in new) shape old (set pegs i r) (i + 1)
  more r kept size owned fine is =
      let all = peg_fine (nodes_in new) shape in
      let first = pegs_fine_kept (nodes_in spare) (nodes_in new) shape store kept (take i pegs) w.fine in
      record {
        size = size ∙ w.size;
        owned = owned;
        fine = subst (AllByRecursion all) (sym (take_more_set pegs i r il)) (recursion_from_All all (take i pegs ++ r ∷ []) (All-push all (take i pegs) r (All-from_recursion all (take i pegs) first) fine));
        same =
            ap (pegs_of (nodes_in new) shape) (take_more_set pegs i r il) ∙ map-append (peg_chart (nodes_in new) shape) (take i pegs) (r ∷ [])
            ∙ ap (λ t. t ++ peg_chart (nodes_in new) shape r ∷ []) (pegs_kept (nodes_in spare) (nodes_in new) shape store kept (take i pegs) w.fine ∙ w.same)
            ∙ ap (λ d. pegs_of source shape (take i old) ++ d ∷ []) (is ∙ ap (peg_chart source shape) next_is)
            ∙ sym (ap (pegs_of source shape) (take_more old i None (omega (arith, il, w.long))) ∙ map-append (peg_chart source shape) (take i old) (get_or old i None ∷ []));
        rest = drop-set-lt (i + 1) pegs i r (omega arith) ∙ sym (drop-drop 1 i pegs) ∙ ap (drop 1) w.rest ∙ drop-drop 1 i old;
        long = lib.ListN.length-set pegs i r ∙ w.long;
      }

  module _ (e : Edge) (at : get_or pegs i None ≡ Some e) (g : Grew spare new 0 (chart source (shape_in spare) e)) where
    e_in : In (chart source shape e) (charts (pegs_of source shape old))
    e_in = chart_in source shape old e (subst (λ p. In p old) at next_old)

    -- the source has room for all of them
    never : Stuck (nodes_in new) shape 0 (chart source shape e) → ⊥
    never s =
        let more = overfull (nodes_in spare) (nodes_in new) shape store g.grows.store g.grows.kept (charts (pegs_of source shape old)) (chart source shape e) e_in w.owned g.grows.grown s in
        let less = held_room source shape old whole held in
        omega (arith, more, less, w.size, g.grows.same)

    owned_more : Owned (nodes_in new) shape (charts (pegs_of source shape old))
    owned_more k x h = elim (g.grows.grown k x h) [
      | inl q ↦ in_cast (name (nodes_in spare) shape k) (name (nodes_in new) shape k) (flat_map (parts shape 0) (charts (pegs_of source shape old))) (name_kept (nodes_in spare) (nodes_in new) g.grows.kept shape store k x q) (w.owned k x q)
      | inr q ↦ each_in (parts shape 0) (name (nodes_in new) shape k) (chart source shape e) (charts (pegs_of source shape old)) e_in q
    ]

    copied : (r : Option Edge) → Built (nodes_in new) shape 0 (chart source shape e) r → Swept source (nodes_in new) shape old (set pegs i r) (i + 1)
    copied None s = absurd (never s)
    copied (Some c) st =
        more (Some c) g.grows.kept g.grows.same owned_more
        (st.0, ap (some late) st.1 ∙ (subst (λ p. peg_fine source shape p) at next_fine).1)
        (ap {B = Option Chart} Some st.1 ∙ sym (ap (peg_chart source shape) at))

  pub swept_more : (r : Option Edge) → CopiesPeg source spare new (get_or pegs i None) r → (shape_in new ≡ shape_in spare) × Swept source (nodes_in new) (shape_in spare) old (set pegs i r) (i + 1)
  swept_more r h = go (get_or pegs i None) refl h
    where
      go : (p : Option Edge) → get_or pegs i None ≡ p → CopiesPeg source spare new p r → (shape_in new ≡ shape_in spare) × Swept source (nodes_in new) (shape_in spare) old (set pegs i r) (i + 1)
      go None at c =
          let back = sym c.0 in (
            ap shape_in c.0,
            more r (subst (λ (n : NodeStore). Kept (nodes_in spare) (nodes_in n)) back (λ k x q. q)) (ap (λ (n : NodeStore). length (nodes_in n)) c.0) (subst (λ (n : NodeStore). Owned (nodes_in n) shape (charts (pegs_of source shape old))) back w.owned)
                (subst (peg_fine (nodes_in new) shape) (sym c.1) tt) (ap (peg_chart (nodes_in new) shape) c.1 ∙ sym (ap (peg_chart source shape) at)),
          )
      go (Some e) at c = (c.0.same, copied e at c.0 r c.1)
