use Rattle.std.proofs.Common.{◌≡◌, List, ℕ, ◌++◌, length, sym, ap, ◌∙◌, arith, length-append}
use Rattle.std.specs.List.{flat_map}
use Rattle.std.proofs.lemmas.List.{length-map}
use Rattle.moves.specs.Views.{pair_of, pairs_of}
use Rattle.format.specs.Bytes.{pair}
use Rattle.format.proofs.Sizes.{pairs_long}
use Rattle.rigfile.specs.Taking.{pairing}
use Rattle.rigfile.proofs.Paired.{even, first_pairs, here_left, next_left, nearly_all}
use Rattle.rigfile.proofs.taker.Taker.pairs.Goals as goal

pub returns-in_err-pairs : goal.returns-in_err-pairs
returns-in_err-pairs c =
    let bs = c.args.self.now.reader.rest.now in
    let here = c.args.self.now.here.now in
    let laid = sym (length-map here pair_of) ∙ ap length c.requires.here in
    rw c.from_residual.ensures
    (λ ps rest n e. omega (arith, n, ap length e ∙ length-append (flat_map pair ps) rest, pairs_long ps, nearly_all bs, laid, c.from-count.ensures, c.in_err-pairs.ensures.cases))

pub returns-in_err-skip : goal.returns-in_err-skip
returns-in_err-skip c =
    rw c.from_residual-in_err-skip.ensures
    (λ ps rest n e. omega (arith, n, ap length e ∙ length-append (flat_map pair ps) rest, pairs_long ps, c.from-count.ensures, c.in_err-skip.ensures))

pub returns : goal.returns
returns c =
    let p = c.in_ok-skip.ensures in
    let n = c.from-count.result in
    let bs = c.args.self.now.reader.rest.now in
    let rest = c.skip.new.self.rest.now in
    let s = c.in_ok-pairs.ensures.cases in
    let e = even n p.0 p.1 in
    let first : pairs_of c.in_ok-pairs.pairs.now ≡ pairing p.0 = ap pairs_of s.1 ∙ first_pairs bs p.0 rest n p.1 p.2 c.args.self.now.here.now c.requires.here in (
      ap length first ∙ e.many ∙ c.from-count.ensures,
      p.2 ∙ ap (λ (u : List ℕ). u ++ rest) (e.same ∙ ap (flat_map pair) (sym first)),
      record {
        here = ap pairs_of s.2 ∙ here_left bs p.0 rest n p.1 p.2 c.args.self.now.here.now c.requires.here;
        next = ap pairs_of c.past-self.ensures ∙ next_left bs p.0 rest n p.1 p.2 c.args.self.now.next.now c.requires.next;
      },
    )
