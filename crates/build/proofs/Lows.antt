-- Least weights. Assumes nothing.
use Rattle.std.proofs.Common.{◌≡◌, ℕ, min, List, [], ◌∷◌, Some, None, refl, ◌∙◌}
use Rattle.std.specs.List.{cons_option, filter_map, fold, reduce}
use Rattle.nodes.specs.declared.edge.Edge.{Edge}
use Rattle.model.specs.Charts.{Time, lesser}
use Rattle.parts.proofs.Pieces.{lesser_assoc}
use Rattle.store.specs.Stores.{lowest}

-- the weights that are times
abbrev pub weights : List Edge → List ℕ
weights es = filter_map (λ (e : Edge). e.weight) es

least_from : (m : ℕ) (es : List Edge) → ◌≡◌ {A = Time} (Some (fold min m (weights es))) (lesser (Some m) (lowest es))
least_from m [] = refl
least_from m (e ∷ es) = go e.weight (λ v. least_from v es)
  where
    go : (w : Time) → ((v : ℕ) → ◌≡◌ {A = Time} (Some (fold min v (weights es))) (lesser (Some v) (lowest es))) → ◌≡◌ {A = Time} (Some (fold min m (cons_option w (weights es)))) (lesser (Some m) (lesser w (lowest es)))
    go None rest = rest m
    go (Some v) rest = rest (min m v) ∙ lesser_assoc (Some m) (Some v) (lowest es)

-- the least of the weights that are times is the least weight
pub least_is : (es : List Edge) → reduce min (weights es) ≡ lowest es
least_is [] = refl
least_is (e ∷ es) = go e.weight (least_is es)
  where
    go : (w : Time) → reduce min (weights es) ≡ lowest es → reduce min (cons_option w (weights es)) ≡ lesser w (lowest es)
    go None rest = rest
    go (Some v) rest = least_from v es
