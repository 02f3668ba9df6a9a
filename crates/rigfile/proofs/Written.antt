-- Bytes put into a buffer one after another. Assumes nothing.
use Rattle.std.proofs.Common.{◌≡◌, ℕ, ◌+◌, ◌≤◌, List, [], ◌∷◌, ◌++◌, length, take, drop, sym, refl, ap, ◌∙◌, subst, append_assoc, add-zero, zero-add, arith, length-append, take-append-drop}
use Rattle.std.proofs.lemmas.List.{take_at, drop_at, drop-drop, length-take-le, length-drop}
use Rattle.rigfile.specs.declared.writer.Writer.{Writer}
use Rattle.rigfile.specs.Writing.{Writes, Room, Puts}

onward : (old mid new : List ℕ) (at : ℕ) (xs ys : List ℕ) → at + length xs ≤ length old → Writes old at xs mid → Writes mid (at + length xs) ys new → Writes old at (xs ++ ys) new
onward old mid new at xs ys h a b =
    let n = at + length xs in
    let le : at ≤ length old = omega arith in
    let l₁ = length-take-le at old le in
    let p = take at old ++ xs in
    let l₂ : length p ≡ n = length-append (take at old) xs ∙ ap (λ (k : ℕ). k + length xs) l₁ in
    let m : mid ≡ p ++ drop n old = a ∙ sym (append_assoc (take at old) xs (drop n old)) in
    let t : take n mid ≡ p = ap (take n) m ∙ take_at p (drop n old) n l₂ in
    let d : drop n mid ≡ drop n old = ap (drop n) m ∙ drop_at p (drop n old) n l₂ in
    let e : drop (n + length ys) mid ≡ drop (n + length ys) old = sym (drop-drop (length ys) n mid) ∙ ap (drop (length ys)) d ∙ drop-drop (length ys) n old in
    let q : n + length ys ≡ at + length (xs ++ ys) = omega (arith, length-append xs ys) in
    b ∙ ap (λ (u : List ℕ). u ++ (ys ++ drop (n + length ys) mid)) t
    ∙ ap (λ (u : List ℕ). p ++ (ys ++ u)) (e ∙ ap (λ (k : ℕ). drop k old) q)
    ∙ append_assoc (take at old) xs (ys ++ drop (at + length (xs ++ ys)) old)
    ∙ ap (λ (u : List ℕ). take at old ++ u) (sym (append_assoc xs ys (drop (at + length (xs ++ ys)) old)))

as_long : (old new : List ℕ) (at : ℕ) (xs : List ℕ) → at + length xs ≤ length old → Writes old at xs new → length new ≡ length old
as_long old new at xs h w =
    let n = at + length xs in
    let l = ap length w in
    let a = length-append (take at old) (xs ++ drop n old) in
    let b = length-append xs (drop n old) in
    let c = length-take-le at old (omega (arith, h)) in
    let d = length-drop n old in
    omega (arith, l, a, b, c, d, h)

pub nothing : (w : Writer) → Puts w [] w
nothing w = record { same_reference = refl; next = sym (add-zero w.at); done = sym (rw add-zero (take-append-drop w.at w.buffer.now)) }

both : (a b c : Writer) (xs ys : List ℕ) → Room a (xs ++ ys) → Puts a xs b → Puts b ys c → Puts a (xs ++ ys) c
both a b c xs ys h p q =
    let l = length-append xs ys in
    record {
      same_reference = q.same_reference ∙ p.same_reference;
      next = omega (arith, l, p.next, q.next);
      done = onward a.buffer.now b.buffer.now c.buffer.now a.at xs ys (omega (arith, l, h)) p.done (subst (λ (n : ℕ). Writes b.buffer.now n ys c.buffer.now) p.next q.done);
    }

-- of all that is to be put since a writer stood at old, what is left has room at mid, and once it is put all is
pub record Ahead (old : Writer) (all left : List ℕ) (mid : Writer) : Type 0 where
  pub room : Room mid left
  pub rest : (end : Writer) → Puts mid left end → Puts old all end

pub begin : (old : Writer) (all : List ℕ) → Room old all → Ahead old all all old
begin old all h = record { room = h; rest = λ end p. p }

-- the next item has room, and is put

pub room : {old mid : Writer} {all left : List ℕ} (item left' : List ℕ) → left ≡ item ++ left' → Ahead old all left mid → Room mid item
room item left' split ahead = let l = ap length split ∙ length-append item left' in omega (arith, l, ahead.room)

pub turn : {old mid new : Writer} {all left item : List ℕ} (left' : List ℕ) → left ≡ item ++ left' → Ahead old all left mid → Puts mid item new → Ahead old all left' new
turn {mid = mid} {new = new} {item = item} left' split ahead p =
    let l = ap length split ∙ length-append item left' in
    let k = as_long mid.buffer.now new.buffer.now mid.at item (room item left' split ahead) p.done in
    record {
      room = omega (arith, l, k, p.next, ahead.room);
      rest = λ end q. ahead.rest end (subst (λ (u : List ℕ). Puts mid u end) (sym split) (both mid new end item left' (subst (Room mid) split ahead.room) p q));
    }

-- nothing is left
pub ended : {old mid : Writer} {all left : List ℕ} → left ≡ [] → Ahead old all left mid → Puts old all mid
ended {mid = mid} none ahead = ahead.rest mid (subst (λ (u : List ℕ). Puts mid u mid) (sym none) (nothing mid))

-- bytes at the front
pub front : (old xs new : List ℕ) → Writes old 0 xs new → new ≡ xs ++ drop (length xs) old
front old xs new w = w ∙ ap (λ (u : List ℕ). u ++ (xs ++ drop (0 + length xs) old)) (take_zero old) ∙ ap (λ (n : ℕ). xs ++ drop n old) (zero-add (length xs))
  where
    take_zero : (l : List ℕ) → take 0 l ≡ []
    take_zero [] = refl
    take_zero (x ∷ l) = refl
