-- What is taken lists what was read. Assumes nothing.
use Rattle.std.proofs.Common.{◌≡◌, ℕ, zero, suc, ◌+◌, ◌-◌, ◌*◌, Bool, true, false, cond, leb, List, [], ◌∷◌, ◌++◌, length, replicate, Some, None, Ok, Err, Option, Result, sym, refl, ap, ◌∙◌, subst, append_assoc, append-nil, arith, length-append}
use lib.ListN.{length-replicate, replicate-append-replicate}
use Rattle.std.proofs.lemmas.List.{length_push, set_at}
use Rattle.std.proofs.lemmas.Bool.{leb-false}
use Rattle.model.specs.Moves.{Move}
use Rattle.model.specs.Contents.{Contents, with_slots, with_slot, with_masks}
use Rattle.model.specs.Calls.{opens, opened, wants, adds}
use Rattle.format.specs.Files.{Entry, Rising, entry, entries, listing}
use Rattle.format.specs.Reading.{Untaken, unless_refused, adding, ListsAsTaken}
use Rattle.format.proofs.Tables.{entries_append}

same_ok : (c d : Contents) → ◌≡◌ {A = Result Contents Untaken} (Ok c) (Ok d) → c ≡ d
same_ok c d e = cc

next_ok : {T : Type 0} (r : Result T ℕ) (byte : ℕ) (next : Result Contents Untaken) (c : Contents) → unless_refused r byte next ≡ Ok c → next ≡ Ok c
next_ok (Ok x) byte next c e = e
next_ok (Err n) byte next c e = cc

not_high : (b : Bool) (later : Result (Unit {0}) ℕ) (byte : ℕ) (next : Result Contents Untaken) (c : Contents) → unless_refused (cond b (Err 4) later) byte next ≡ Ok c → b ≡ false
not_high true later byte next c e = cc
not_high false later byte next c e = refl

no_entries : (n k : ℕ) → entries n (replicate k None) ≡ []
no_entries n zero = refl
no_entries n (suc k) = no_entries (n + 1) k

-- vacant slots behind others list nothing
none_behind : (done : List (Option Move)) (k : ℕ) → entries 0 (done ++ replicate k None) ≡ entries 0 done
none_behind done k = entries_append 0 done (replicate k None) ∙ ap (λ (u : List Entry). entries 0 done ++ u) (no_entries (0 + length done) k) ∙ append-nil (entries 0 done)

abbrev Filled : Contents → Contents → List Entry → Type 0
Filled c d es = (os : List (Option Move)) × (d ≡ with_slots c os) × (entries 0 os ≡ es)

filled : (c d : Contents) (byte : ℕ) (done : List (Option Move)) (k : ℕ) (es : List Entry) → Rising (length done) es → adding (with_slots c (done ++ replicate k None)) byte es ≡ Ok d → Filled c d (entries 0 done ++ es)
filled c d byte done k [] r e = (done ++ replicate k None, sym (same_ok _ d e), none_behind done k ∙ sym (append-nil (entries 0 done)))
filled c d byte done k (e ∷ es) r q =
    let n = e.number in
    let o : Option Move = Some e.move in
    let os = done ++ replicate k None in
    let high = leb-false (length os) n (not_high (leb (length os) n) _ byte _ d q) in
    let long = length-append done (replicate k None) in
    let some = length-replicate {A = Option Move} k None in
    let j = n - length done in
    let i = k - j - 1 in
    let front = done ++ replicate j None in
    let l : length front ≡ n = length-append done (replicate j None) ∙ ap (λ (u : ℕ). length done + u) (length-replicate {A = Option Move} j None) ∙ (omega (arith, r.0)) in
    let kk : j + suc i ≡ k = omega (arith, high, long, some, r.0) in
    let split : os ≡ front ++ None ∷ replicate i None =
    ap (λ (u : List (Option Move)). done ++ u) (ap (λ (u : ℕ). replicate u None) (sym kk) ∙ sym (replicate-append-replicate j (suc i) None))
    ∙ sym (append_assoc done (replicate j None) (None ∷ replicate i None)) in
    let next = next_ok (adds (with_slots c os) n e.move) byte _ d q in
    let moved : with_slot (with_slots c os) n o ≡ with_slots c ((front ++ o ∷ []) ++ replicate i None) =
    ap (λ (u : List (Option Move)). with_slot (with_slots c u) n o) split
    ∙ ap (with_slots c) (set_at front None (replicate i None) o n l ∙ sym (append_assoc front (o ∷ []) (replicate i None))) in
    let m : length (front ++ o ∷ []) ≡ n + 1 = length_push front o ∙ ap (λ (u : ℕ). u + 1) l in
    let p = filled c d (byte + length (entry e)) (front ++ o ∷ []) i es (subst (λ (u : ℕ). Rising u es) (sym m) r.1) (ap (λ (u : Contents). adding u (byte + length (entry e)) es) (sym moved) ∙ next) in
    let listed : entries 0 (front ++ o ∷ []) ≡ entries 0 done ++ e ∷ [] =
    entries_append 0 front (o ∷ []) ∙ ap (λ (u : ℕ). entries 0 front ++ entries u (o ∷ [])) (omega (arith, l)) ∙ ap (λ (u : List Entry). u ++ e ∷ []) (none_behind done j) in
    (p.0, p.1, p.2 ∙ ap (λ (u : List Entry). u ++ es) listed ∙ append_assoc (entries 0 done) (e ∷ []) es)

pub lists_as_taken : ListsAsTaken
lists_as_taken l n c s e =
    let o = opened l.settings l.names l.scene n in
    let byte = 12 + 11 * length l.settings in
    let e₁ = next_ok (opens l.settings l.names l.scene n) 0 _ c e in
    let e₂ = next_ok (wants o l.masks) 0 _ c e₁ in
    let p = filled (with_masks o l.masks) c byte [] n l.moves s.moves e₂ in
    let m = p.2 in
    ap listing p.1 ∙ (λ i. record { settings = l.settings; names = l.names; scene = l.scene; masks = l.masks; moves = m i })
