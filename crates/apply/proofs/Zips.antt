-- Charts joined entry by entry. Assumes nothing.
use Rattle.std.proofs.Common.{◌≡◌, ℕ, zero, suc, ◌≤◌, min, [], ◌∷◌, length, get_or, take, drop, Some, None, sym, refl, ap, ◌∙◌, arith}
use Rattle.nodes.specs.declared.remembered.Op.{Op}
use Rattle.nodes.specs.declared.remembered.Op.TheVariants.{Cheaper, Sum}
use Rattle.model.specs.Charts.{Time, Chart, lesser, plus, zipped}
use Rattle.model.specs.Parts.{pieces}
use Rattle.parts.specs.Shifts.{later}
use Rattle.memo.specs.Operations.{entry}
use Rattle.apply.specs.Splits.{split_of}

module _ (f : Time → Time → Time) where
  zipped_take : (m : ℕ) (c d : Chart) → take m (zipped f c d) ≡ zipped f (take m c) (take m d)
  zipped_take zero c d = refl
  zipped_take (suc m) [] d = refl
  zipped_take (suc m) (x ∷ xs) [] = refl
  zipped_take (suc m) (x ∷ xs) (y ∷ ys) = ap (λ t. f x y ∷ t) (zipped_take m xs ys)

  zipped_none : (c : Chart) → zipped f c [] ≡ []
  zipped_none [] = refl
  zipped_none (x ∷ xs) = refl

  zipped_drop : (m : ℕ) (c d : Chart) → drop m (zipped f c d) ≡ zipped f (drop m c) (drop m d)
  zipped_drop zero c d = refl
  zipped_drop (suc m) [] d = refl
  zipped_drop (suc m) (x ∷ xs) [] = sym (zipped_none (drop m xs))
  zipped_drop (suc m) (x ∷ xs) (y ∷ ys) = zipped_drop m xs ys

  pub zipped_piece : (n m k : ℕ) (c d : Chart) → get_or (pieces n m (zipped f c d)) k [] ≡ zipped f (get_or (pieces n m c) k []) (get_or (pieces n m d) k [])
  zipped_piece zero m k c d = refl
  zipped_piece (suc n) m zero c d = zipped_take m c d
  zipped_piece (suc n) m (suc k) c d = ap (λ t. get_or (pieces n m t) k []) (zipped_drop m c d) ∙ zipped_piece n m k (drop m c) (drop m d)

pub entry_comm : (op : Op) (x y : Time) → entry op x y ≡ entry op y x
entry_comm Cheaper None None = refl
entry_comm Cheaper None (Some y) = refl
entry_comm Cheaper (Some x) None = refl
entry_comm Cheaper (Some x) (Some y) = ap {B = Time} Some (omega arith)
entry_comm Sum None None = refl
entry_comm Sum None (Some y) = refl
entry_comm Sum (Some x) None = refl
entry_comm Sum (Some x) (Some y) = ap {B = Time} Some (omega arith)

-- where the one has no time
pub cheaper_never : (b d : Chart) → length b ≡ length d → zipped lesser (later None b) d ≡ d
cheaper_never [] [] h = refl
cheaper_never [] (y ∷ ys) h = absurd (omega arith)
cheaper_never (x ∷ xs) [] h = absurd (omega arith)
cheaper_never (x ∷ xs) (y ∷ ys) h = ap (λ t. y ∷ t) (cheaper_never xs ys (omega arith))

pub sum_never : (b d : Chart) → length b ≡ length d → zipped plus (later None b) d ≡ later None b
sum_never [] d h = refl
sum_never (x ∷ xs) [] h = absurd (omega arith)
sum_never (x ∷ xs) (y ∷ ys) h = ap (λ t. None ∷ t) (sum_never xs ys (omega arith))

-- what two weights have in common is added to the result
split_entry : (op : Op) (a b : ℕ) (x y : Time) → entry op (plus (Some a) x) (plus (Some b) y) ≡ plus (Some (split_of op a b).base) (entry op (plus (Some (split_of op a b).left) x) (plus (Some (split_of op a b).right) y))
split_entry Cheaper a b None None = refl
split_entry Cheaper a b None (Some y) = ap {B = Time} Some (omega arith)
split_entry Cheaper a b (Some x) None = ap {B = Time} Some (omega arith)
split_entry Cheaper a b (Some x) (Some y) = ap {B = Time} Some (omega arith)
split_entry Sum a b None y = refl
split_entry Sum a b (Some x) None = refl
split_entry Sum a b (Some x) (Some y) = ap {B = Time} Some (omega arith)

pub split_zip : (op : Op) (a b : ℕ) (c d : Chart) → zipped (entry op) (later (Some a) c) (later (Some b) d) ≡ later (Some (split_of op a b).base) (zipped (entry op) (later (Some (split_of op a b).left) c) (later (Some (split_of op a b).right) d))
split_zip op a b [] d = refl
split_zip op a b (x ∷ xs) [] = refl
split_zip op a b (x ∷ xs) (y ∷ ys) = let p = split_entry op a b x y in let q = split_zip op a b xs ys in λ i. p i ∷ q i

pub split_left : (op : Op) (a b : ℕ) → (split_of op a b).left ≤ a
split_left Cheaper a b = omega arith
split_left Sum a b = omega arith

pub split_right : (op : Op) (a b : ℕ) → (split_of op a b).right ≤ b
split_right Cheaper a b = omega arith
split_right Sum a b = omega arith

pub split_base : (op : Op) (a b : ℕ) → entry op (Some a) (Some b) ≡ Some (split_of op a b).base
split_base Cheaper a b = refl
split_base Sum a b = refl

-- the lesser of a chart later by one time and by another
lesser_same : (a b : ℕ) (x : Time) → lesser (plus (Some a) x) (plus (Some b) x) ≡ plus (Some (min a b)) x
lesser_same a b None = refl
lesser_same a b (Some x) = ap {B = Time} Some (omega arith)

pub cheaper_same : (a b : ℕ) (c : Chart) → zipped lesser (later (Some a) c) (later (Some b) c) ≡ later (Some (min a b)) c
cheaper_same a b [] = refl
cheaper_same a b (x ∷ xs) = let p = lesser_same a b x in let q = cheaper_same a b xs in λ i. p i ∷ q i
