use Rattle.std.proofs.Common.{◌≡◌, ℕ, ◌<◌, false, length, get_or, drop, sym, ◌∙◌, subst, rules, tests}
use Rattle.std.proofs.lemmas.Iterator.{YieldsList-from_slice}
use Rattle.std.proofs.lemmas.Iterator.Adapters.{option_map_id, serves_from_places}
use Rattle.std.proofs.lemmas.Iterator.Consumers.{YieldsList-from_filter_map, max_from_yields_List}
use Rattle.nodes.specs.declared.edge.Edge.{Edge}
use Rattle.model.specs.Charts.{plus, late}
use Rattle.store.specs.Stores.{below}
use Rattle.build.proofs.Highs.{each_timely, greatest_is}
use Rattle.build.proofs.reach.highest.Goals as goal

pub max-requires-clause-can : goal.max-requires-clause-can
max-requires-clause-can c =
    let nodes = c.args.nodes.now in
    let ns = drop c.args.level c.args.settings.now in
    let es = c.args.edges.now in
    let timely = λ (e : Edge) (k : ℕ) (lt : k < length es) (is : e ≡ get_or es k e). subst (λ (d : Edge). late (plus d.weight (below nodes ns d)) ≡ false) (sym is) (each_timely nodes ns es k e lt c.requires.timely) in
    (tt, tt, serves_from_places (YieldsList-from_slice es cc) (λ x q k. search (rules, tests)) (λ x k lt is. let here = timely x.now k lt is in search (rules, here, c.requires.depth)))

pub returns : goal.returns
returns c =
    let nodes = c.args.nodes.now in
    let ns = drop c.args.level c.args.settings.now in
    let es = c.args.edges.now in
    let most = max_from_yields_List c.filter_map.result c.max.result c.max.ensures.ran (YieldsList-from_filter_map _ (λ (e : Edge). plus e.weight (below nodes ns e)) (YieldsList-from_slice es cc) c.filter_map.ensures.closure (λ x r q k. search (rules, tests))) in
    sym (option_map_id c.max.result) ∙ most ∙ greatest_is nodes ns es
