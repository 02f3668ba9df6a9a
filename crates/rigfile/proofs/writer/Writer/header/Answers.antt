use Rattle.std.proofs.Common.{ℕ, ◌+◌, ◌*◌, ◌∷◌, ◌++◌, refl, ap, sym}
use Rattle.format.specs.Bytes.{two}
use Rattle.format.specs.Files.{header}
use Rattle.rigfile.proofs.Written.{begin, turn}
use Rattle.rigfile.proofs.writer.Writer.header.Goals as goal

pub returns : goal.returns
returns c =
    let d = c.args.devices in
    let m = c.args.moves in
    let n = c.from-count.result in
    let total = two c.args.total in
    let third = two (12 + 11 * n) ++ total in
    let second = two (12 + 9 * n) ++ third in
    let parted = ap (λ (k : ℕ). 1 ∷ d ∷ m ∷ 0 ∷ (two 12 ++ (two (12 + 9 * k) ++ (two (12 + 11 * k) ++ total)))) (sym c.from-count.ensures) in
    let a = begin c.args.self.now (header d m c.args.total) c.requires in
    (turn total refl (turn third refl (turn second refl (turn (two 12 ++ second) parted a c.bytes.ensures) c.number.ensures) c.number-2.ensures) c.number-3.ensures).rest _ c.number-4.ensures
