-- Shelves with room for whatever the rule hangs. Assumes nothing.
use Rattle.std.proofs.Common.{◌≡◌, ℕ, zero, suc, ◌+◌, ◌*◌, ◌≤◌, Bool, true, false, cond, List, [], ◌∷◌, length, drop, Some, None, refl, ap, ◌∙◌, arith}
use Rattle.std.proofs.lemmas.Bool.{le-ltb}
use Rattle.std.proofs.lemmas.Nat.{mul-le}
use Rattle.std.proofs.lemmas.List.{length-set, length-append}
use Rattle.std.specs.List.{flat_map}
use Rattle.model.specs.Lists.{some}
use Rattle.model.specs.Parts.{same_part, different, pieces, parts}
use Rattle.model.specs.Scenes.{Shape, size}
use Rattle.model.specs.Charts.{Chart}
use Rattle.model.specs.Shelves.{Pegs, Call, charts, diagram_fill, target, hung, after}
use Rattle.rule.specs.Steps.{Step, calls}
use Rattle.rule.specs.Running.{ran, Fits}
use Rattle.diagram.specs.Openings.{diagram_opened}
use Rattle.planner.specs.Plans.{cleared}

different_few : {X : Type 0} (same : X → X → Bool) (xs : List X) → different same xs ≤ length xs
different_few same [] = omega arith
different_few same (x ∷ xs) = go (some (same x) xs) (different_few same xs)
  where
    go : (b : Bool) → different same xs ≤ length xs → cond b (different same xs) (different same xs + 1) ≤ suc (length xs)
    go true h = omega arith
    go false h = omega arith

-- how many parts a chart of the shape has, different or not
abbrev pub many_parts : Shape → ℕ
many_parts [] = 0
many_parts (n ∷ ns) = suc (n * many_parts ns)

length_each : {X Y : Type 0} (f : X → List Y) (m : ℕ) → ((x : X) → length (f x) ≡ m) → (xs : List X) → length (flat_map f xs) ≡ length xs * m
length_each f m e [] = omega arith
length_each f m e (x ∷ xs) = length-append (f x) (flat_map f xs) ∙ grind (arith, e x, length_each f m e xs)

length_pieces : (n each : ℕ) (c : Chart) → length (pieces n each c) ≡ n
length_pieces zero each c = refl
length_pieces (suc n) each c = ap suc (length_pieces n each (drop each c))

length_parts : (ns : Shape) (k : ℕ) (c : Chart) → length (parts ns k c) ≡ many_parts ns
length_parts [] k c = refl
length_parts (n ∷ ns) k c =
    ap suc (length_each (parts ns (k + 1)) (many_parts ns) (length_parts ns (k + 1)) (pieces n (size ns) c)
    ∙ ap (λ i. i * many_parts ns) (length_pieces n (size ns) c))

length_charts : (ps : Pegs) → length (charts ps) ≤ length ps
length_charts [] = omega arith
length_charts (None ∷ ps) = let h = length_charts ps in omega arith
length_charts (Some c ∷ ps) = let h = length_charts ps in omega arith

-- each peg and the new chart have at most so many parts
fill_few : (ns : Shape) (ps : Pegs) (c : Chart) → diagram_fill ns ps c ≤ suc (length ps) * many_parts ns
fill_few ns ps c =
    let all = flat_map (parts ns 0) (c ∷ charts ps) in
    let few : different same_part all ≤ length all = different_few same_part all in
    let long : length all ≡ suc (length (charts ps)) * many_parts ns = length_each (parts ns 0) (many_parts ns) (length_parts ns 0) (c ∷ charts ps) in
    let more : suc (length (charts ps)) * many_parts ns ≤ suc (length ps) * many_parts ns = mul-le (suc (length (charts ps))) (many_parts ns) (suc (length ps)) (many_parts ns) (omega (arith, length_charts ps)) (omega arith) in
    omega (arith, few, long, more)

ran_length : (ns : Shape) (ps : Pegs) (cs : List Call) → length (ran ns ps cs) ≡ length ps
ran_length ns ps [] = refl
ran_length ns ps (c ∷ cs) = ran_length ns (after ns ps c) cs ∙ length-set ps (target c) (Some (hung ns ps c))

-- so a diagram shelf has room for any calls, once it has nine times as many node slots as a chart has parts
pub diagram_fits : (ns : Shape) (slots : ℕ) → 9 * many_parts ns ≤ slots → (xs : List Step) → Fits (cleared (diagram_opened ns slots)) xs
diagram_fits ns slots enough xs done left x e =
    let m = cleared (diagram_opened ns slots) in
    let ps = ran ns m.pegs (calls done) in
    let c = hung ns ps x.call in
    let long : length ps ≡ 8 = ran_length ns m.pegs (calls done) in
    let few : diagram_fill ns ps c ≤ suc (length ps) * many_parts ns = fill_few ns ps c in
    let nine : suc (length ps) * many_parts ns ≡ 9 * many_parts ns = ap (λ i. suc i * many_parts ns) long in
    le-ltb slots (diagram_fill ns ps c) (omega (arith, few, nine, enough))
