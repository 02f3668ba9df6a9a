use Rattle.std.proofs.Common.{◌≡◌, ℕ, ◌+◌, ◌<◌, Bool, true, false, ◌&&◌, List, ◌∷◌, length, get_or, drop, sym, ap, ◌∙◌, arith}
use Rattle.std.proofs.lemmas.List.{drop_more, at_drop_all}
use Rattle.model.specs.Masks.{admits, wanted}
use Rattle.rig.proofs.masks.every_admitted.Goals as goal

-- what is left from i, by whether the setting at i is admitted
step : (ms s : List ℕ) (i : ℕ) (b : Bool) → i < length ms → i < length s → b ≡ admits (get_or ms i 0) (get_or s i 0)
    → wanted (drop i ms) (drop i s) ≡ (b && wanted (drop (i + 1) ms) (drop (i + 1) s))
step ms s i b lm ls e =
    ap (λ (t : List ℕ). wanted t (drop i s)) (drop_more ms i 0 lm)
    ∙ ap (λ (t : List ℕ). wanted (get_or ms i 0 ∷ drop (i + 1) ms) t) (drop_more s i 0 ls)
    ∙ ap (λ (t : Bool). t && wanted (drop (i + 1) ms) (drop (i + 1) s)) (sym e)

pub returns-then-not-admits : goal.returns-then-not-admits
returns-then-not-admits c =
    sym (step c.args.masks.now c.args.scene.now c.loop-i.i false (omega arith) (omega arith) c.if-not-admits.ensures) ∙ c.loop-i.invariant

pub loop-i-preserved : goal.loop-i-preserved
loop-i-preserved c =
    sym (step c.args.masks.now c.args.scene.now c.loop-i.i true (omega arith) (omega arith) c.if-not-admits.ensures) ∙ c.loop-i.invariant

pub returns : goal.returns
returns c =
    sym (at_drop_all (λ (t : List ℕ). wanted t (drop c.loop-i.i c.args.scene.now)) c.args.masks.now c.loop-i.i c.loop-i-test.false) ∙ c.loop-i.invariant
