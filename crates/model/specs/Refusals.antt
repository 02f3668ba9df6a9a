-- Refusals by their numbers: where several hold, the smallest is answered. Assumes nothing.
use Rattle.std.specs.Prelude.{◌≡◌, ℕ, ◌<◌, ◌≤◌, Bool, true, false, cond, List, [], ◌∷◌, Ok, Err, Result}
use Rattle.model.specs.Lists.{In}

-- a refusal's number, and whether it holds
pub record Check : Type 0 where
  pub number : ℕ
  pub holds : Bool

abbrev pub refuse : ℕ → Bool → Check
refuse n b = record { number = n; holds = b }

-- what a call answers: the first refusal that holds, or else its result
abbrev pub answer : {T : Type 0} → List Check → T → Result T ℕ
answer [] x = Ok x
answer (c ∷ cs) x = cond c.holds (Err c.number) (answer cs x)

-- no refusal holds
abbrev pub passes : List Check → Bool
passes [] = true
passes (c ∷ cs) = cond c.holds false (passes cs)

-- what a call leaves: the new contents, or on a refusal the old ones
abbrev pub left_by : {T C : Type 0} → Result T ℕ → C → C → C
left_by (Ok _) new old = new
left_by (Err _) new old = old

-- each number is above those before it
abbrev pub Above : ℕ → List Check → Type 0
Above n [] = Unit {0}
Above n (c ∷ cs) = (n < c.number) × Above c.number cs

-- r refuses with the smallest number of the checks that hold, and accepts where none holds
abbrev pub Smallest : {T : Type 0} → List Check → Result T ℕ → Type 0
Smallest cs (Ok x) = (c : Check) → In c cs → c.holds ≡ false
Smallest cs (Err n) = ((c : Check) × In c cs × (c.number ≡ n) × (c.holds ≡ true)) × ((c : Check) → In c cs → c.holds ≡ true → n ≤ c.number)
