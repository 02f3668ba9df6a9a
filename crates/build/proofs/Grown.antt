-- A store of nodes that grows call by call. Assumes nothing.
use Rattle.std.proofs.Common.{◌≡◌, ℕ, ◌+◌, ◌*◌, ◌<◌, false, List, length, get_or, drop, set, Option, sym, refl, ap, ◌∙◌, subst}
use Rattle.nodes.specs.declared.edge.Edge.{Edge}
use Rattle.model.specs.Charts.{Chart, late}
use Rattle.model.specs.Lists.{In, some}
use Rattle.model.specs.Parts.{Part, parts}
use Rattle.model.specs.Scenes.{size}
use Rattle.store.specs.Stores.{chart}
use Rattle.store.specs.Fillings.{Stuck}
use Rattle.build.specs.declared.node_store.NodeStore.{NodeStore}
use Rattle.build.specs.Builds.{Ready, Kids, Makeable, Grows, Built, Stands, Partway, together, piece, spread_chart}
use Rattle.build.specs.Grew.{nodes_in, shape_in, Grew, Begun}
use Rattle.build.proofs.Steps.{grows_none, grows_alike, grows_then, partway_grows, partway_stuck, partway_more, partway_kids, partway_all}
use Rattle.build.proofs.Spreads.{spread_none, spread_early, spread_grows, spread_built}

-- a store that has grown, over the shape that it was over
pub ready_in : (old mid : NodeStore) → shape_in mid ≡ shape_in old → Ready (nodes_in mid) (shape_in old)
ready_in old mid same = subst (Ready (nodes_in mid)) same mid.ready

pub grows_in : (old mid new : NodeStore) (l : ℕ) (c : Chart) → shape_in mid ≡ shape_in old → Grew mid new l c → Grows (nodes_in mid) (nodes_in new) (shape_in old) l c
grows_in old mid new l c same g = subst (λ s. Grows (nodes_in mid) (nodes_in new) s l c) same g.grows

-- no growth is growth
pub grew_none : (s : NodeStore) (l : ℕ) (c : Chart) → Grew s s l c
grew_none s l c = record { same = refl; grows = grows_none (nodes_in s) (shape_in s) l c s.ready }

-- growth by a chart with the same parts
pub grew_alike : (old new : NodeStore) (l : ℕ) (c d : Chart) → parts (drop l (shape_in old)) l c ≡ parts (drop l (shape_in old)) l d → Grew old new l c → Grew old new l d
grew_alike old new l c d same g = record { same = g.same; grows = grows_alike (nodes_in old) (nodes_in new) (shape_in old) l c d same g.grows }

-- growth after growth
pub grew_then : (old mid new : NodeStore) (l m : ℕ) (c d : Chart) → ((p : Part) → In p (parts (drop m (shape_in old)) m d) → In p (parts (drop l (shape_in old)) l c)) → Grew old mid l c → Grew mid new m d → Grew old new l c
grew_then old mid new l m c d sub g h = record {
  same = h.same ∙ g.same;
  grows = grows_then (nodes_in old) (nodes_in mid) (nodes_in new) (shape_in old) l m c d old.ready.store sub g.grows (grows_in old mid new m d g.same h);
}

-- a kid is built, and then spread
module _ (old mid : NodeStore) (l : ℕ) (c d : Chart) (lt : l < length (shape_in old)) (long : length c ≡ size (drop (l + 1) (shape_in old))) (whole : spread_chart (shape_in old) l c ≡ d) (g : Grew old mid (l + 1) c) where
  pub early_spread : Grew old mid l d
  early_spread = record {
    same = g.same;
    grows = subst (Grows (nodes_in old) (nodes_in mid) (shape_in old) l) whole (spread_early (nodes_in old) (nodes_in mid) (nodes_in mid) (shape_in old) l c old.ready lt long g.grows);
  }

  pub stuck_spread : Stuck (nodes_in mid) (shape_in old) (l + 1) c → Stuck (nodes_in mid) (shape_in old) l d
  stuck_spread s = subst (Stuck (nodes_in mid) (shape_in old) l) whole (spread_none (nodes_in old) (nodes_in mid) (nodes_in mid) (shape_in old) l c old.ready lt long g.grows s)

  module _ (new : NodeStore) (kid : Edge) (is : chart (nodes_in mid) (drop (l + 1) (shape_in old)) kid ≡ c) where
    pub grew_spread : Grew mid new l (spread_chart (shape_in mid) l (chart (nodes_in mid) (drop (l + 1) (shape_in mid)) kid)) → Grew old new l d
    grew_spread h =
        let here = subst (λ s. Grows (nodes_in mid) (nodes_in new) s l (spread_chart s l (chart (nodes_in mid) (drop (l + 1) s) kid))) g.same h.grows in
        record {
          same = h.same ∙ g.same;
          grows = subst (Grows (nodes_in old) (nodes_in new) (shape_in old) l) whole (spread_grows (nodes_in old) (nodes_in mid) (nodes_in new) (shape_in old) l c old.ready lt long g.grows kid is here);
        }

    pub built_spread : (r : Option Edge) → Built (nodes_in new) (shape_in mid) l (spread_chart (shape_in mid) l (chart (nodes_in mid) (drop (l + 1) (shape_in mid)) kid)) r → Built (nodes_in new) (shape_in old) l d r
    built_spread r b =
        let here = subst (λ s. Built (nodes_in new) s l (spread_chart s l (chart (nodes_in mid) (drop (l + 1) s) kid)) r) g.same b in
        subst (λ (e : Chart). Built (nodes_in new) (shape_in old) l e r) whole (spread_built (nodes_in old) (nodes_in mid) (nodes_in new) (shape_in old) l c old.ready lt long g.grows kid is r here)

-- the kids of a node are built one by one, and then the node

module _ (old mid new : NodeStore) (l : ℕ) (c : Chart) (i : ℕ) (kids : List Edge) (lt : l < length (shape_in old)) (b : Begun old mid l c i kids) (d : Chart) where
  pub grew_begun : Grew old mid l c
  grew_begun = record { same = b.same; grows = b.way.grows }

  -- the next kid
  module _ (il : i < get_or (shape_in old) l 0) (is : d ≡ piece (shape_in old) l c i) (g : Grew mid new (l + 1) d) where
    grows_here : Grows (nodes_in mid) (nodes_in new) (shape_in old) (l + 1) (piece (shape_in old) l c i)
    grows_here = subst (Grows (nodes_in mid) (nodes_in new) (shape_in old) (l + 1)) is (grows_in old mid new (l + 1) d b.same g)

    pub grew_next : Grew old new l c
    grew_next = record { same = g.same ∙ b.same; grows = partway_grows (nodes_in old) (nodes_in mid) (nodes_in new) (shape_in old) l c i kids old.ready.store lt il b.way grows_here }

    pub stuck_next : Stuck (nodes_in new) (shape_in mid) (l + 1) d → Stuck (nodes_in new) (shape_in old) l c
    stuck_next s =
        let p = b.same in
        partway_stuck (nodes_in old) (nodes_in mid) (nodes_in new) (shape_in old) l c i kids old.ready.store lt il b.way grows_here (coe 0 1 (j. Stuck (nodes_in new) (p j) (l + 1) (is j)) s)

    pub begun_next : (kid : Edge) → Stands (nodes_in new) (shape_in mid) (l + 1) d kid → Begun old new l c (i + 1) (set kids i kid)
    begun_next kid s =
        let p = b.same in
        let t = coe 0 1 (j. Stands (nodes_in new) (p j) (l + 1) (is j) kid) s in
        record {
          same = g.same ∙ b.same;
          way = partway_more (nodes_in old) (nodes_in mid) (nodes_in new) (shape_in old) l c i kids old.ready.store lt il b.way grows_here kid (old.ready.few l) t.0 t.1;
        }

  -- the node
  module _ (all : i ≡ get_or (shape_in old) l 0) (long : length c ≡ get_or (shape_in old) l 0 * size (drop (l + 1) (shape_in old))) where
    end : Partway (nodes_in old) (nodes_in mid) (shape_in old) l c (get_or (shape_in old) l 0) kids
    end = subst (λ k. Partway (nodes_in old) (nodes_in mid) (shape_in old) l c k kids) all b.way

    begun_kids : Kids (nodes_in mid) (get_or (shape_in mid) l 0) (drop (l + 1) (shape_in mid)) l kids
    begun_kids = subst (λ s. Kids (nodes_in mid) (get_or s l 0) (drop (l + 1) s) l kids) (sym b.same) (partway_kids (nodes_in old) (nodes_in mid) (shape_in old) l c kids (old.ready.few l) end)

    begun_together : together (nodes_in mid) (shape_in mid) l kids ≡ c
    begun_together = ap (λ s. together (nodes_in mid) s l kids) b.same ∙ partway_all (nodes_in old) (nodes_in mid) (shape_in old) l c kids (old.ready.few l) end long

    pub begun_makeable : some late c ≡ false → Makeable (nodes_in mid) (shape_in mid) l kids
    begun_makeable h = record { depth = subst (λ s. l < length s) (sym b.same) lt; kids = begun_kids; timely = ap (some late) begun_together ∙ h }

    pub grew_made : Grew mid new l (together (nodes_in mid) (shape_in mid) l kids) → Grew old new l c
    grew_made g = grew_then old mid new l l c c (λ p h. h) grew_begun (subst (Grew mid new l) begun_together g)

    pub built_made : (r : Option Edge) → Built (nodes_in new) (shape_in mid) l (together (nodes_in mid) (shape_in mid) l kids) r → Built (nodes_in new) (shape_in old) l c r
    built_made r h =
        let p = b.same in
        let q = begun_together in
        coe 0 1 (j. Built (nodes_in new) (p j) l (q j) r) h
