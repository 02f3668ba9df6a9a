-- What holds of each of several, one after another. Assumes nothing.
use Rattle.std.proofs.Common.{ℕ, zero, suc, ◌<◌, arith}

infixr 20 ◌&◌
-- of the first, and of those after it
abbrev pub ◌&◌ : {P Q : Type 0} → P → Q → P × Q
p & q = (p, q)

-- of each number below n
abbrev pub EachBelow : (ℕ → Type 0) → ℕ → Type 0
EachBelow P zero = Unit {0}
EachBelow P (suc n) = P 0 × EachBelow (λ k. P (suc k)) n

pub each_below : (P : ℕ → Type 0) (n : ℕ) → EachBelow P n → (k : ℕ) → k < n → P k
each_below P zero all k h = absurd (omega arith)
each_below P (suc n) all zero h = all.0
each_below P (suc n) all (suc k) h = each_below (λ i. P (suc i)) n all.1 k (omega arith)
