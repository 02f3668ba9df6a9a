use Rattle.std.proofs.Common.{rules, tests, sym, ◌∙◌}
use Rattle.std.proofs.lemmas.Iterator.{YieldsList-from_slice}
use Rattle.std.proofs.lemmas.Iterator.Adapters.{option_map_id}
use Rattle.std.proofs.lemmas.Iterator.Consumers.{YieldsList-from_filter_map, min_from_yields_List}
use Rattle.nodes.specs.declared.edge.Edge.{Edge}
use Rattle.build.proofs.Lows.{least_is}
use Rattle.build.proofs.lowering.least.Goals as goal

pub returns : goal.returns
returns c =
    let es = c.args.edges.now in
    let least = min_from_yields_List c.filter_map.result c.min.result c.min.ensures.ran (YieldsList-from_filter_map _ (λ (e : Edge). e.weight) (YieldsList-from_slice es cc) c.filter_map.ensures.closure (λ x r q k. search (rules, tests))) in
    sym (option_map_id c.min.result) ∙ least ∙ least_is es
