use Rattle.std.proofs.Common.{arith, rules}
use Rattle.std.proofs.lemmas.Iterator.{YieldsList-from_slice, YieldsList-from_map}
use Rattle.model.proofs.Sizes.{size_most}
use Rattle.shelf.proofs.Products.{product_is, product_fits}
use Rattle.shelf.proofs.counts.scenes.Goals as goal

pub product-requires-clause-fits : goal.product-requires-clause-fits
product-requires-clause-fits c =
    let ns = c.args.settings.now in
    product_fits c.map.result ns (YieldsList-from_map _ (λ n. n) (YieldsList-from_slice ns cc) c.map.ensures.closure (λ x r q k. search rules)) c.requires.legal c.requires.few

pub returns : goal.returns
returns c =
    let ns = c.args.settings.now in
    let value = product_is c.map.result ns (YieldsList-from_map _ (λ n. n) (YieldsList-from_slice ns cc) c.map.ensures.closure (λ x r q k. search rules)) c.product.result c.product.ensures.ran in
    record { value = value; bound = omega (arith, value, size_most ns c.requires.legal c.requires.few) }
