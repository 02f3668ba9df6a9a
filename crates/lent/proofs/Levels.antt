-- A chart that is the same at each setting of a level's device. Assumes nothing.
use Rattle.std.proofs.Common.{◌≡◌, ℕ, ◌+◌, ◌<◌, false, List, length, drop, None, Option, sym, ap, ◌∙◌, subst}
use Rattle.nodes.specs.declared.edge.Edge.{Edge}
use Rattle.nodes.specs.declared.node.Node.{Node}
use Rattle.model.specs.Charts.{Chart, late}
use Rattle.model.specs.Lists.{some}
use Rattle.model.specs.Scenes.{Shape, size}
use Rattle.store.specs.Fillings.{Stuck}
use Rattle.build.specs.Builds.{Ready, Spreadable, Grows, Built, Made, Stands, spread_chart, throughout}
use Rattle.build.proofs.Spreads.{spread_none, spread_early, spread_grows, spread_built}

-- what is known of a level once the chart c below it is built, where the chart d is c at each setting of the level's device
pub record Turn (old mid : List (Option Node)) (shape : Shape) (l : ℕ) (c d : Chart) : Type 0 where
  pub ready : Ready old shape
  pub depth : l < length shape
  pub long : length c ≡ size (drop (l + 1) shape)
  pub timely : some late c ≡ false
  pub is : spread_chart shape l c ≡ d
  pub grows : Grows old mid shape (l + 1) c

module _ {old mid : List (Option Node)} {shape : Shape} {l : ℕ} {c d : Chart} (s : Turn old mid shape l c d) where
  pub turn_none : (r : Option Edge) → r ≡ None → Stuck mid shape (l + 1) c → Made old mid shape l d r
  turn_none r none t = record {
    grows = subst (Grows old mid shape l) s.is (spread_early old mid mid shape l c s.ready s.depth s.long s.grows);
    built = subst (Built mid shape l d) (sym none) (subst (Stuck mid shape l) s.is (spread_none old mid mid shape l c s.ready s.depth s.long s.grows t));
  }

  module _ (kid : Edge) (st : Stands mid shape (l + 1) c kid) where
    pub turn_spreadable : Spreadable mid shape l kid
    turn_spreadable = record { depth = s.depth; legal = record { fine = st.0; timely = ap (some late) st.1 ∙ s.timely } }

    pub turn_made : (new : List (Option Node)) (r : Option Edge) → Made mid new shape l (throughout mid shape l kid) r → Made old new shape l d r
    turn_made new r m = record {
      grows = subst (Grows old new shape l) s.is (spread_grows old mid new shape l c s.ready s.depth s.long s.grows kid st.1 m.grows);
      built = subst (λ (e : Chart). Built new shape l e r) s.is (spread_built old mid new shape l c s.ready s.depth s.long s.grows kid st.1 r m.built);
    }
