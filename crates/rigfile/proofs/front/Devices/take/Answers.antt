use Rattle.std.proofs.Common.{◌≡◌, ℕ, ◌+◌, List, ◌∷◌, ◌++◌, length, get_or, sym, ap, ◌∙◌, subst, arith, rules, length-append}
use Rattle.std.specs.List.{AllByRecursion}
use Rattle.std.proofs.lemmas.List.{length_push}
use Rattle.lists.specs.Shorts.{listed}
use Rattle.format.specs.Files.{devices, Eight}
use Rattle.rigfile.proofs.Devised.{front_long, devices_push, eight_push, single}
use Rattle.rigfile.proofs.front.Devices.take.Goals as goal

pub returns-in_err-many : goal.returns-in_err-many
returns-in_err-many c =
    let i = c.loop.invariant in
    let l = front_long (listed c.loop.settings) (listed c.loop.names) _ _ (i.1 ∙ sym i.0) i.2 i.3 in
    rw c.from_residual.ensures (omega (arith, l, i.0, c.in_err-many.ensures, c.loop-test.true))

pub returns-in_err-name : goal.returns-in_err-name
returns-in_err-name c =
    let i = c.loop.invariant in
    let l = front_long (listed c.loop.settings) (listed c.loop.names) _ _ (i.1 ∙ sym i.0) i.2 i.3 in
    let one : length c.in_ok-many.field-0 ≡ 1 = search rules in
    let m = ap length c.in_ok-many.ensures ∙ length-append c.in_ok-many.field-0 c.take.new.self.rest.now in
    rw c.from_residual-in_err-name.ensures (omega (arith, l, m, one, i.0, c.in_err-name.ensures, c.loop-test.true))

pub loop-preserved : goal.loop-preserved
loop-preserved c =
    let i = c.loop.invariant in
    let settings = listed c.loop.settings in
    let names = listed c.loop.names in
    let xs = c.in_ok-many.field-0 in
    let name = c.in_ok-name.name in
    let rest = c.take-in-loop.new.self.rest.now in
    let one : length xs ≡ 1 = search rules in
    let eight : length name ≡ 8 = search rules in
    let more = c.in_ok-push.ensures.items in
    let named = c.in_ok-push-2.ensures.items in (
      ap length more ∙ length_push settings _ ∙ ap (λ (n : ℕ). n + 1) i.0,
      ap length named ∙ length_push names name ∙ ap (λ (n : ℕ). n + 1) i.1,
      subst (AllByRecursion Eight) (sym named) (eight_push names name i.2 eight),
      i.3
          ∙ ap (λ (u : List ℕ). devices settings names ++ u) (c.in_ok-many.ensures ∙ ap (λ (u : List ℕ). u ++ c.take.new.self.rest.now) (single xs one) ∙ ap (λ (u : List ℕ). get_or xs 0 0 ∷ u) c.in_ok-name.ensures)
          ∙ devices_push settings names (get_or xs 0 0) name rest (i.1 ∙ sym i.0)
          ∙ sym (λ j. devices (more j) (named j) ++ rest),
    )
