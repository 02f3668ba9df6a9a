-- The node that is made of some kids. Assumes nothing.
use Rattle.std.proofs.Common.{◌≡◌, ℕ, zero, suc, ◌+◌, ◌-◌, ◌<◌, ◌≤◌, min, true, false, ◌⊎◌, List, [], ◌∷◌, ◌++◌, map, length, take, drop, replicate, is_some, Some, None, Option, sym, refl, ap, ◌∙◌, subst, inl, inr, arith, take-append-drop}
use lib.ListN.{length-map}
use lib.LanesLaws.{map-replicate}
use Rattle.std.specs.List.{AllByRecursion, flat_map}
use Rattle.std.proofs.lemmas.Bool.{both_ways, cases_eq, ltb-false, le-ltb}
use Rattle.std.proofs.lemmas.List.{take-map, drop-map, length-take-le}
use Rattle.table.specs.Tables.{slot, Apart, Kept}
use Rattle.table.specs.Finds.{Crowded}
use Rattle.nodes.specs.declared.edge.Edge.{Edge}
use Rattle.nodes.specs.declared.node.Node.{Node}
use Rattle.model.specs.Charts.{Time, Chart, plus, lesser, greater, greatest, late}
use Rattle.model.specs.Limits.{greatest_time}
use Rattle.model.specs.Lists.{In, some}
use Rattle.model.specs.Parts.{Part, parts}
use Rattle.model.specs.Scenes.{Shape}
use Rattle.model.proofs.Lateness.{late_tells}
use Rattle.parts.specs.Shifts.{later, zeroed}
use Rattle.parts.proofs.Pieces.{parts_each}
use Rattle.store.specs.Stores.{none_edge, node_in, lowest, below, highest, chart, Leads, Fine, Formed, Proper, Store}
use Rattle.store.specs.Fillings.{name_of, name, Grown, Stuck}
use Rattle.store.proofs.Canon.{formed_at, knows_kids, kids_long, body_low, body_high, node_known}
use Rattle.store.proofs.Greatest.{greatest_later}
use Rattle.store.proofs.Grows.{proper_kept, body_kept}
use Rattle.store.proofs.Fits.{name_is}
use Rattle.build.specs.Builds.{lower_by, wanted, Kids}
use Rattle.build.proofs.Weights.{none_some, less_none, zeroed_less, zeroed_twice, lowest_lowered, Back, back_all, body_back}

lowest_append : (es fs : List Edge) → lowest fs ≡ None → lowest (es ++ fs) ≡ lowest es
lowest_append [] fs h = h
lowest_append (e ∷ es) fs h = ap (lesser e.weight) (lowest_append es fs h)

lowest_none : (n : ℕ) → lowest (replicate n none_edge) ≡ None
lowest_none zero = refl
lowest_none (suc n) = lowest_none n

highest_append : (nodes : List (Option Node)) (ns : Shape) (es fs : List Edge) → highest nodes ns fs ≡ None → highest nodes ns (es ++ fs) ≡ highest nodes ns es
highest_append nodes ns [] fs h = h
highest_append nodes ns (e ∷ es) fs h = ap (greater (plus e.weight (below nodes ns e))) (highest_append nodes ns es fs h)

highest_none : (nodes : List (Option Node)) (ns : Shape) (n : ℕ) → highest nodes ns (replicate n none_edge) ≡ None
highest_none nodes ns zero = refl
highest_none nodes ns (suc n) = highest_none nodes ns n

-- where no weight is a time there is no greatest time
pub highest_never : (nodes : List (Option Node)) (ns : Shape) (es : List Edge) → lowest es ≡ None → highest nodes ns es ≡ None
highest_never nodes ns [] h = refl
highest_never nodes ns (e ∷ es) h = go e.weight h (highest_never nodes ns es)
  where
    go : (w : Time) → lesser w (lowest es) ≡ None → (lowest es ≡ None → highest nodes ns es ≡ None) → greater (plus w (below nodes ns e)) (highest nodes ns es) ≡ None
    go None k ih = ih k
    go (Some v) k ih = absurd (some_lesser (lowest es) k)
      where
        some_lesser : (y : Time) → lesser (Some v) y ≡ None → ⊥
        some_lesser None z = none_some v (sym z)
        some_lesser (Some y) z = none_some (min v y) (sym z)

-- what is not late after a time is added was not late before
pub late_less : (v : ℕ) (x : Time) → late (plus (Some v) x) ≡ false → late x ≡ false
late_less v None h = refl
late_less v (Some x) h = le-ltb greatest_time x (omega (arith, ltb-false greatest_time (v + x) h))

fine_lowered : (nodes : List (Option Node)) (ns : Shape) (l : ℕ) (m : Time) (es : List Edge) → AllByRecursion (Fine nodes ns l) es → AllByRecursion (Fine nodes ns l) (map (lower_by m) es)
fine_lowered nodes ns l m [] a = tt
fine_lowered nodes ns l m (e ∷ es) a = (one ns a.0, fine_lowered nodes ns l m es a.1)
  where
    one : (ts : Shape) → Fine nodes ts l e → Fine nodes ts l (lower_by m e)
    one [] f = f
    one (n ∷ ts) f = record { here = f.here; deep = f.deep; low = zeroed_less m e.weight ∙ f.low }

module _ (nodes : List (Option Node)) (n : ℕ) (ns : Shape) (l : ℕ) (kids : List Edge) (few : n ≤ 8) (k : Kids nodes n ns l kids) where
  pub lowest_front : lowest kids ≡ lowest (take n kids)
  lowest_front = ap lowest (sym (take-append-drop n kids)) ∙ lowest_append (take n kids) (drop n kids) (ap lowest k.rest ∙ lowest_none (8 - n))

  pub front_is : take n (wanted nodes ns l kids).edges ≡ map (lower_by (lowest kids)) (take n kids)
  front_is = take-map (lower_by (lowest kids)) n kids

  pub wanted_low : lowest (take n (wanted nodes ns l kids).edges) ≡ zeroed (lowest kids)
  wanted_low = ap lowest front_is ∙ lowest_lowered (lowest kids) (take n kids) (sym lowest_front)

  rest_is : drop n (wanted nodes ns l kids).edges ≡ replicate (8 - n) none_edge
  rest_is = drop-map (lower_by (lowest kids)) n kids ∙ ap (map (lower_by (lowest kids))) k.rest ∙ map-replicate (lower_by (lowest kids)) (8 - n) none_edge ∙ ap (replicate (8 - n)) none_lowered
    where
      none_lowered : lower_by (lowest kids) none_edge ≡ none_edge
      none_lowered = let p = less_none (lowest kids) in λ i. record { weight = p i; child = 0 }

  pub wanted_formed : Formed nodes n ns (wanted nodes ns l kids)
  wanted_formed = record {
    wide = ap length front_is ∙ length-map (take n kids) (lower_by (lowest kids)) ∙ length-take-le n kids (omega (arith, k.eight));
    rest = rest_is;
    low = ap zeroed wanted_low ∙ zeroed_twice (lowest kids) ∙ sym wanted_low;
    high = ap (highest nodes ns) (sym (take-append-drop n (wanted nodes ns l kids).edges)) ∙ highest_append nodes ns (take n (wanted nodes ns l kids).edges) (drop n (wanted nodes ns l kids).edges) (ap (highest nodes ns) rest_is ∙ highest_none nodes ns (8 - n));
    kids = subst (AllByRecursion (Fine nodes ns (l + 1))) (sym front_is) (fine_lowered nodes ns (l + 1) (lowest kids) (take n kids) k.fine);
  }

  -- the chart of the kids is that of the node, later by the lowest
  pub wanted_chart : later (lowest kids) (flat_map (chart nodes ns) (take n (wanted nodes ns l kids).edges)) ≡ flat_map (chart nodes ns) (take n kids)
  wanted_chart = ap (λ es. later (lowest kids) (flat_map (chart nodes ns) es)) front_is ∙ body_back nodes ns (lowest kids) (take n kids) (subst (λ m. AllByRecursion (λ e. Back m e.weight) (take n kids)) (sym lowest_front) (back_all (take n kids)))

module _ (nodes : List (Option Node)) (shape : Shape) (store : Store nodes shape) (n : ℕ) (ns : Shape) (l : ℕ) (at : drop l shape ≡ n ∷ ns) (kids : List Edge) (few : n ≤ 8) (k : Kids nodes n ns l kids) where
  -- the part of the node is one of the chart
  pub wanted_part : In {X = Part} (record { fixed = l; chart = flat_map (chart nodes ns) (take n (wanted nodes ns l kids).edges) }) (parts (drop l shape) l (flat_map (chart nodes ns) (take n kids)))
  wanted_part =
      let x = wanted nodes ns l kids in
      let f = wanted_formed nodes n ns l kids few k in
      let known = knows_kids nodes shape store l n ns (take n x.edges) at f.kids in
      let p = parts_each (chart nodes ns) n ns l (lowest kids) (take n x.edges) f.wide (kids_long nodes n ns (take n x.edges) known) (sym (wanted_low nodes n ns l kids few k) ∙ sym (body_low nodes n ns (take n x.edges) known)) in
      subst (λ t. In {X = Part} (record { fixed = l; chart = flat_map (chart nodes ns) (take n x.edges) }) (parts t l (flat_map (chart nodes ns) (take n kids)))) (sym at)
      (subst (λ c. In {X = Part} (record { fixed = l; chart = flat_map (chart nodes ns) (take n x.edges) }) (parts (n ∷ ns) l c)) (wanted_chart nodes n ns l kids few k)
      (subst (In {X = Part} (record { fixed = l; chart = flat_map (chart nodes ns) (take n x.edges) })) (sym p) (inl refl)))

  -- no time of the node is late, if none of the chart is
  pub wanted_timely : some late (flat_map (chart nodes ns) (take n kids)) ≡ false → late (wanted nodes ns l kids).most ≡ false
  wanted_timely h =
      let x = wanted nodes ns l kids in
      let f = wanted_formed nodes n ns l kids few k in
      let es = take n x.edges in
      let known = knows_kids nodes shape store l n ns es at f.kids in
      let g : plus (lowest kids) x.most ≡ greatest (flat_map (chart nodes ns) (take n kids)) =
      ap (plus (lowest kids)) (f.high ∙ sym (body_high nodes n ns es known)) ∙ sym (greatest_later (lowest kids) (flat_map (chart nodes ns) es)) ∙ ap greatest (wanted_chart nodes n ns l kids few k) in
      let t : late (plus (lowest kids) x.most) ≡ false = ap late g ∙ sym (late_tells (flat_map (chart nodes ns) (take n kids))) ∙ h in
      go (lowest kids) refl t
    where
      go : (m : Time) → lowest kids ≡ m → late (plus m (wanted nodes ns l kids).most) ≡ false → late (wanted nodes ns l kids).most ≡ false
      go (Some v) e t = late_less v (wanted nodes ns l kids).most t
      go None e t = ap late ((wanted_formed nodes n ns l kids few k).high ∙ highest_never nodes ns (take n (wanted nodes ns l kids).edges) (wanted_low nodes n ns l kids few k ∙ ap zeroed e))

  -- no room for the node
  pub make_stuck : Crowded (λ (x y : Node). x ≡ y) nodes (wanted nodes ns l kids) → Stuck nodes shape l (flat_map (chart nodes ns) (take n kids))
  make_stuck crowded = record {
    taken = crowded.all;
    part = (record { fixed = l; chart = flat_map (chart nodes ns) (take n (wanted nodes ns l kids).edges) });
    within = wanted_part;
    away = λ j jl h. go j jl (slot nodes j) refl (crowded.all j jl) h;
  }
    where
      go : (j : ℕ) → j < length nodes → (o : Option Node) → slot nodes j ≡ o → is_some (slot nodes j) ≡ true → ◌≡◌ {A = Part} (record { fixed = l; chart = flat_map (chart nodes ns) (take n (wanted nodes ns l kids).edges) }) (name nodes shape j) → ⊥
      go j jl None here some h = both_ways (is_some (slot nodes j)) (ap is_some here) some
      go j jl (Some y) here some h =
          let d : y.level ≡ l = sym (ap (λ p. p.fixed) (h ∙ ap (λ o. name_of nodes shape (node_in o)) here)) in
          let q = h ∙ name_is nodes shape j l n ns y at here d in
          let f = wanted_formed nodes n ns l kids few k in
          crowded.absent j y jl here (node_known nodes shape store l n ns y (wanted nodes ns l kids) at d refl (formed_at nodes shape store j l n ns y at here d) f (sym (ap (λ p. p.chart) q)))

-- the store with one node more
module _ (old new : List (Option Node)) (shape : Shape) (before : Store old shape) (kept : Kept old new) (apart : Apart (λ (x y : Node). x ≡ y) new) (i : ℕ) (x : Node) (here : slot new i ≡ Some x) (others : (k : ℕ) → (k ≡ i → ⊥) → slot new k ≡ slot old k) where
  pub store_more : Proper old (drop x.level shape) x → Store new shape
  store_more p = record { apart = apart; proper = λ k y h. go k y h (cases_eq k i) }
    where
      go : (k : ℕ) (y : Node) → slot new k ≡ Some y → (k ≡ i) ⊎ (k ≡ i → ⊥) → Proper new (drop y.level shape) y
      go k y h (inl e) = let z : x ≡ y = (let g : slot new k ≡ Some x = ap (slot new) e ∙ here in cc) in subst (λ v. Proper new (drop v.level shape) v) z (proper_kept old new kept (drop x.level shape) x p)
      go k y h (inr n) = proper_kept old new kept (drop y.level shape) y (before.proper k y (sym (others k n) ∙ h))

  pub grown_more : (l : ℕ) (c : Chart) → In (name new shape i) (parts (drop l shape) l c) → Grown old new shape l c
  grown_more l c p k y h = elim (cases_eq k i) [ inl e ↦ inr (subst (λ j. In (name new shape j) (parts (drop l shape) l c)) (sym e) p) | inr n ↦ inl (sym (others k n) ∙ h) ]

module _ (old new : List (Option Node)) (shape : Shape) (before : Store old shape) (kept : Kept old new) (n : ℕ) (ns : Shape) (l : ℕ) (at : drop l shape ≡ n ∷ ns) (kids : List Edge) (few : n ≤ 8) (k : Kids old n ns l kids) (i : ℕ) (here : slot new i ≡ Some (wanted old ns l kids)) where
  pub made_fine : Leads new n l (record { weight = lowest kids; child = i })
  made_fine = record { here = ap is_some here; deep = ap (λ o. (node_in o).level) here; low = sym (wanted_low old n ns l kids few k) ∙ sym (ap (λ o. lowest (take n (node_in o).edges)) here) }

  body_same : flat_map (chart new ns) (take n (wanted old ns l kids).edges) ≡ flat_map (chart old ns) (take n (wanted old ns l kids).edges)
  body_same = body_kept old new kept shape before l n ns (wanted old ns l kids) at refl (wanted_formed old n ns l kids few k)

  pub made_chart : chart new (n ∷ ns) (record { weight = lowest kids; child = i }) ≡ flat_map (chart old ns) (take n kids)
  made_chart = ap (λ o. later (lowest kids) (flat_map (chart new ns) (take n (node_in o).edges))) here ∙ ap (later (lowest kids)) body_same ∙ wanted_chart old n ns l kids few k

  pub made_part : In (name new shape i) (parts (drop l shape) l (flat_map (chart old ns) (take n kids)))
  made_part = subst (λ p. In p (parts (drop l shape) l (flat_map (chart old ns) (take n kids)))) (sym (name_is new shape i l n ns (wanted old ns l kids) at here refl ∙ (λ j. record { fixed = l; chart = body_same j }))) (wanted_part old shape before n ns l at kids few k)
