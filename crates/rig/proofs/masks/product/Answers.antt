use Rattle.std.proofs.Common.{ℕ, ◌+◌, ◌*◌, ◌^◌, ◌<◌, ◌≤◌, get_or, drop, sym, ap, ◌∙◌, mul_assoc, mul-le-mul, pow-suc, mul-one, add-one, arith, lit<}
use native.Mathlib.Nat.{pow-le-pow_right}
use lib.Count.{ones, ones-le}
use Rattle.std.proofs.lemmas.List.{at_drop_more, at_drop_all}
use Rattle.model.specs.Masks.{product_of_ones}
use Rattle.rig.proofs.masks.product.Goals as goal

-- what one more mask can make of the product
bound : (t i o : ℕ) → t ≤ 8 ^ i → o ≤ 8 → t * o ≤ 8 ^ (i + 1)
bound t i o h k = rw (add-one, pow-suc) (mul-le-mul h k)

-- the product so far times a mask's ones
next : (c : goal.After-from-product) → c.loop-mask.product * c.from-product.result ≤ 8 ^ (c.loop-mask.mask-index + 1)
next c =
    let byte : get_or c.args.masks.now c.loop-mask.mask-index 0 < 2 ^ 8 = omega (arith, c.type_inv.masks c.loop-mask.mask-index) in
    let few : c.from-product.result ≤ 8 = omega (arith, ones-le 8 (get_or c.args.masks.now c.loop-mask.mask-index 0) byte) in
    bound _ _ _ c.loop-mask.invariant.1 few

pub overflow_mul-product : goal.overflow_mul-product
overflow_mul-product c =
    let short : c.loop-mask.mask-index + 1 ≤ 12 = omega arith in
    omega (arith, next c, pow-le-pow_right {n = 8} (lit< tt) short)

pub loop-mask-preserved : goal.loop-mask-preserved
loop-mask-preserved c =
    let rest = product_of_ones (drop (c.loop-mask.mask-index + 1) c.args.masks.now) in (
      ap (λ (o : ℕ). c.loop-mask.product * o * rest) c.from-product.ensures
          ∙ mul_assoc c.loop-mask.product (ones (get_or c.args.masks.now c.loop-mask.mask-index 0)) rest
          ∙ ap (λ (o : ℕ). c.loop-mask.product * o) (sym (at_drop_more product_of_ones c.args.masks.now c.loop-mask.mask-index 0 c.loop-mask-test.true))
          ∙ c.loop-mask.invariant.0,
      next c,
    )

pub returns : goal.returns
returns c =
    sym (mul-one c.loop-mask.product)
    ∙ ap (λ (o : ℕ). c.loop-mask.product * o) (sym (at_drop_all product_of_ones c.args.masks.now c.loop-mask.mask-index c.loop-mask-test.false))
    ∙ c.loop-mask.invariant.0
