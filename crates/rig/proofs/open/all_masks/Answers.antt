use Rattle.std.proofs.Common.{◌≡◌, ℕ, ◌+◌, ◌<◌, List, [], ◌∷◌, ◌++◌, map, length, get_or, take, drop, set, sym, ap, ◌∙◌, subst, append_assoc, arith}
use Rattle.std.proofs.lemmas.List.{drop_more, take_more, set_at, length-take-le, length-map, map-append}
use Rattle.lists.specs.Shorts.{listed}
use Rattle.model.specs.Masks.{all_of}
use Rattle.rig.proofs.open.all_masks.Goals as goal

-- one more mask over the front of the settings
mask_more : (f : ℕ → ℕ) (ns : List ℕ) (i : ℕ) → i < length ns → set (map f (take i ns) ++ drop i ns) i (f (get_or ns i 0)) ≡ map f (take (i + 1) ns) ++ drop (i + 1) ns
mask_more f ns i lt =
    ap (λ (t : List ℕ). set (map f (take i ns) ++ t) i (f (get_or ns i 0))) (drop_more ns i 0 lt)
    ∙ set_at (map f (take i ns)) (get_or ns i 0) (drop (i + 1) ns) (f (get_or ns i 0)) i (length-map (take i ns) f ∙ length-take-le i ns (omega arith))
    ∙ sym (append_assoc (map f (take i ns)) (f (get_or ns i 0) ∷ []) (drop (i + 1) ns))
    ∙ ap (λ (t : List ℕ). t ++ drop (i + 1) ns) (sym (map-append f (take i ns) (get_or ns i 0 ∷ [])) ∙ ap (map f) (sym (take_more ns i 0 lt)))

pub loop-device-preserved : goal.loop-device-preserved
loop-device-preserved c =
    let ns = listed c.args.settings.now in
    let i = c.loop-device.device in
    let value = c.as_slice-count-items.ensures.value in
    let lt : i < length ns = subst (λ (l : List ℕ). i < length l) value c.loop-device-test.true in
    c.set.ensures
    ∙ ap (λ (l : List ℕ). set l i c.mask_of_all.result) c.loop-device.invariant
    ∙ ap (λ (m : ℕ). set (map all_of (take i ns) ++ drop i ns) i m) (c.mask_of_all.ensures ∙ ap (λ (l : List ℕ). all_of (get_or l i 0)) value)
    ∙ mask_more all_of ns i lt
