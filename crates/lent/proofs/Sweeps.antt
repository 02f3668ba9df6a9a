-- The steps of a sweep into lent slots: the copy of what pegs carry, peg by peg. Assumes nothing.
use Rattle.std.proofs.Common.{◌≡◌, ℕ, ◌+◌, ◌<◌, ◌≤◌, List, [], ◌∷◌, ◌++◌, length, get_or, take, drop, set, is_some, Some, None, Option, sym, refl, ap, ◌∙◌, subst, inl, inr, arith}
use mathlib.Core.List.{map-append}
use Rattle.std.specs.List.{AllByRecursion, flat_map}
use Rattle.std.proofs.lemmas.Bool.{both_ways}
use Rattle.std.proofs.lemmas.List.Elements.{All-from_recursion, recursion_from_All, All-push}
use Rattle.std.proofs.lemmas.List.{take_more, take_more_set, take_all, drop-drop, drop-set-lt, get_or-drop}
use Rattle.table.specs.Tables.{slot, Kept, Empty}
use Rattle.nodes.specs.declared.edge.Edge.{Edge}
use Rattle.nodes.specs.declared.node.Node.{Node}
use Rattle.model.specs.Charts.{Chart, late}
use Rattle.model.specs.Lists.{In, some}
use Rattle.model.specs.Parts.{parts}
use Rattle.model.specs.Scenes.{Shape}
use Rattle.model.specs.Shelves.{charts}
use Rattle.parts.proofs.Counts.{in_cast}
use Rattle.parts.proofs.Pieces.{all_in, each_in}
use Rattle.store.specs.Stores.{chart}
use Rattle.store.specs.Fillings.{Stuck, Owned, name}
use Rattle.store.proofs.Grows.{name_kept}
use Rattle.store.proofs.Fits.{overfull}
use Rattle.build.specs.Builds.{Ready, Grows, Built}
use Rattle.build.proofs.Steps.{get_or_in}
use Rattle.pegs.specs.Held.{peg_chart, pegs_of, peg_fine, Swept}
use Rattle.pegs.proofs.Sweeps.{chart_in, held_room, pegs_fine_kept, pegs_kept}
use Rattle.lent.specs.Held.{Held, Collected, CopiesPeg}
use Rattle.lent.proofs.Growing.{ready_after}

-- The sweep

pub swept_none : (source spare : List (Option Node)) (shape : Shape) (pegs : List (Option Edge)) → length spare ≡ length source → Empty spare → Swept source spare shape pegs pegs 0
swept_none source spare shape pegs size empty = record {
  size = size;
  owned = λ k x h. absurd (both_ways (is_some (slot spare k)) (ap is_some (empty k)) (ap is_some h));
  fine = tt;
  same = refl;
  rest = refl;
  long = refl;
}

module _ (source spare new : List (Option Node)) (shape : Shape) (old pegs : List (Option Edge)) (i : ℕ) (held : Held source shape old) (il : i < length pegs) (ready : Ready spare shape) (w : Swept source spare shape old pegs i) where
  next_is : get_or pegs i None ≡ get_or old i None
  next_is = ap (λ n. get_or pegs n None) (let z : i ≡ i + 0 = omega arith in z) ∙ sym (get_or-drop i pegs 0 None) ∙ ap (λ t. get_or t 0 None) w.rest ∙ get_or-drop i old 0 None ∙ ap (λ n. get_or old n None) (let z : i + 0 ≡ i = omega arith in z)

  next_old : In (get_or pegs i None) old
  next_old = subst (λ p. In p old) (sym next_is) (get_or_in old i None (omega (arith, il, w.long)))

  pub next_fine : peg_fine source shape (get_or pegs i None)
  next_fine = all_in (peg_fine source shape) (get_or pegs i None) old held.fine next_old

  -- one peg more, given its copy in a store that has grown by its parts
  more : (r : Option Edge) → Kept spare new → length new ≡ length spare → Owned new shape (charts (pegs_of source shape old)) → peg_fine new shape r → peg_chart new shape r ≡ peg_chart source shape (get_or pegs i None) → Swept source new shape old (set pegs i r) (i + 1)
  more r kept size owned fine is =
      let all = peg_fine new shape in
      let first = pegs_fine_kept spare new shape ready.store kept (take i pegs) w.fine in
      record {
        size = size ∙ w.size;
        owned = owned;
        fine = subst (AllByRecursion all) (sym (take_more_set pegs i r il)) (recursion_from_All all (take i pegs ++ r ∷ []) (All-push all (take i pegs) r (All-from_recursion all (take i pegs) first) fine));
        same =
            ap (pegs_of new shape) (take_more_set pegs i r il) ∙ map-append (peg_chart new shape) (take i pegs) (r ∷ [])
            ∙ ap (λ t. t ++ peg_chart new shape r ∷ []) (pegs_kept spare new shape ready.store kept (take i pegs) w.fine ∙ w.same)
            ∙ ap (λ d. pegs_of source shape (take i old) ++ d ∷ []) (is ∙ ap (peg_chart source shape) next_is)
            ∙ sym (ap (pegs_of source shape) (take_more old i None (omega (arith, il, w.long))) ∙ map-append (peg_chart source shape) (take i old) (get_or old i None ∷ []));
        rest = drop-set-lt (i + 1) pegs i r (omega arith) ∙ sym (drop-drop 1 i pegs) ∙ ap (drop 1) w.rest ∙ drop-drop 1 i old;
        long = lib.ListN.length-set pegs i r ∙ w.long;
      }

  module _ (e : Edge) (at : get_or pegs i None ≡ Some e) (g : Grows spare new shape 0 (chart source shape e)) where
    e_in : In (chart source shape e) (charts (pegs_of source shape old))
    e_in = chart_in source shape old e (subst (λ p. In p old) at next_old)

    -- the source has room for all of them
    never : Stuck new shape 0 (chart source shape e) → ⊥
    never s =
        let more = overfull spare new shape ready.store g.store g.kept (charts (pegs_of source shape old)) (chart source shape e) e_in w.owned g.grown s in
        let less = held_room source shape old held.ready.store held.fine in
        omega (arith, more, less, w.size, g.same)

    owned_more : Owned new shape (charts (pegs_of source shape old))
    owned_more k x h = elim (g.grown k x h) [
      | inl q ↦ in_cast (name spare shape k) (name new shape k) (flat_map (parts shape 0) (charts (pegs_of source shape old))) (name_kept spare new g.kept shape ready.store k x q) (w.owned k x q)
      | inr q ↦ each_in (parts shape 0) (name new shape k) (chart source shape e) (charts (pegs_of source shape old)) e_in q
    ]

    copied : (r : Option Edge) → Built new shape 0 (chart source shape e) r → Swept source new shape old (set pegs i r) (i + 1)
    copied None s = absurd (never s)
    copied (Some c) st =
        more (Some c) g.kept g.same owned_more
        (st.0, ap (some late) st.1 ∙ (subst (λ p. peg_fine source shape p) at next_fine).1)
        (ap {B = Option Chart} Some st.1 ∙ sym (ap (peg_chart source shape) at))

  -- the peg's copy
  module _ (r : Option Edge) (h : CopiesPeg source spare new shape (get_or pegs i None) r) where
    pub swept_ready : Ready new shape
    swept_ready = go (get_or pegs i None) h
      where
        go : (p : Option Edge) → CopiesPeg source spare new shape p r → Ready new shape
        go None c = subst (λ n. Ready n shape) (sym c.0) ready
        go (Some e) c = ready_after ready c.grows

    pub swept_more : Swept source new shape old (set pegs i r) (i + 1)
    swept_more = go (get_or pegs i None) refl h
      where
        go : (p : Option Edge) → get_or pegs i None ≡ p → CopiesPeg source spare new shape p r → Swept source new shape old (set pegs i r) (i + 1)
        go None at c =
            let still = c.0 in
            more r (subst (λ n. Kept spare n) (sym still) (λ k x q. q)) (ap length still) (subst (λ n. Owned n shape (charts (pegs_of source shape old))) (sym still) w.owned)
            (subst (peg_fine new shape) (sym c.1) tt) (ap (peg_chart new shape) c.1 ∙ sym (ap (peg_chart source shape) at))
        go (Some e) at c = copied e at c.grows r c.built

pub swept_all : {source spare : List (Option Node)} {shape : Shape} {old pegs : List (Option Edge)} → Ready spare shape → Swept source spare shape old pegs (length old) → Collected source spare shape old pegs
swept_all {source} {spare} {shape} {old} {pegs} ready w =
    let most : length pegs ≤ length old = omega (arith, w.long) in
    record {
      held = record { ready = ready; fine = subst (AllByRecursion (peg_fine spare shape)) (take_all (length old) pegs most) w.fine };
      same = ap (pegs_of spare shape) (sym (take_all (length old) pegs most)) ∙ w.same ∙ ap (pegs_of source shape) (take_all (length old) old (omega arith));
      owned = w.owned;
    }
