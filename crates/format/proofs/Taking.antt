-- What a rig's file lists is taken as that rig. Assumes nothing.
use Rattle.std.proofs.Common.{◌≡◌, ℕ, ◌+◌, ◌*◌, Bool, true, false, cond, leb, List, [], ◌∷◌, ◌++◌, length, get_or, replicate, is_some, Some, None, Ok, Err, Option, Result, sym, refl, ap, ◌∙◌, subst, append_assoc, arith, length-append}
use Rattle.std.specs.List.{AllByRecursion}
use Rattle.std.proofs.lemmas.List.{length_push, set_at}
use Rattle.std.proofs.ByRecursion.{All-from_get_or}
use Rattle.std.proofs.lemmas.Bool.{false≢true, lt-leb}
use Rattle.model.specs.Moves.{Move}
use Rattle.model.specs.Refusals.{Check, answer, passes}
use Rattle.model.specs.Contents.{Contents, with_slots, with_slot, with_masks}
use Rattle.model.specs.Calls.{opened, open_checks, wants, want_checks, adds, move_checks, lawful_slot}
use Rattle.format.specs.Files.{Entry, entry, entries}
use Rattle.format.specs.Reading.{Untaken, unless_refused, adding, TakenBack}

-- where no check holds, the result is answered
passed : {T : Type 0} (cs : List Check) (x : T) → passes cs ≡ true → answer cs x ≡ Ok x
passed [] x h = refl
passed {T} (c ∷ cs) x h = go c.holds h (passed cs x)
  where
    go : (b : Bool) → cond b false (passes cs) ≡ true → (passes cs ≡ true → answer cs x ≡ Ok x) → cond b (Err c.number) (answer cs x) ≡ Ok x
    go true h on = absurd (false≢true h)
    go false h on = on h

vacant_at : (done rest : List (Option Move)) (n : ℕ) → length done ≡ n → get_or (done ++ None ∷ rest) n None ≡ None
vacant_at done rest n l = subst (λ (k : ℕ). get_or (done ++ None ∷ rest) k None ≡ None) l (go done)
  where
    go : (ds : List (Option Move)) → get_or (ds ++ None ∷ rest) (length ds) None ≡ None
    go [] = refl
    go (d ∷ ds) = go ds

-- a lawful move is added to a vacant slot
added_there : (c : Contents) (done rest : List (Option Move)) (n : ℕ) (m : Move) → length done ≡ n → passes (move_checks c.settings m) ≡ true → adds (with_slots c (done ++ None ∷ rest)) n m ≡ Ok tt
added_there c done rest n m l h =
    let high : leb (length (done ++ None ∷ rest)) n ≡ false = lt-leb (length (done ++ None ∷ rest)) n (omega (arith, l, length-append done (None ∷ rest))) in
    let free : is_some (get_or (done ++ None ∷ rest) n None) ≡ false = ap is_some (vacant_at done rest n l) in
    ap (λ (b : Bool). cond b (Err 4) (cond (is_some (get_or (done ++ None ∷ rest) n None)) (Err 5) (answer (move_checks c.settings m) tt))) high
    ∙ ap (λ (b : Bool). cond b (Err 5) (answer (move_checks c.settings m) tt)) free
    ∙ passed (move_checks c.settings m) tt h

-- the moves of the slots behind those that are filled already
added_behind : (c : Contents) (n byte : ℕ) (done slots : List (Option Move)) → length done ≡ n → AllByRecursion (λ o. lawful_slot c.settings o ≡ true) slots → adding (with_slots c (done ++ replicate (length slots) None)) byte (entries n slots) ≡ Ok (with_slots c (done ++ slots))
added_behind c n byte done [] l h = refl
added_behind c n byte done (None ∷ slots) l h =
    ap (λ (os : List (Option Move)). adding (with_slots c os) byte (entries (n + 1) slots)) (sym (append_assoc done (None ∷ []) (replicate (length slots) None)))
    ∙ added_behind c (n + 1) byte (done ++ None ∷ []) slots (length_push done None ∙ ap (λ (k : ℕ). k + 1) l) h.1
    ∙ ap (λ (os : List (Option Move)). Ok (with_slots c os)) (append_assoc done (None ∷ []) slots)
added_behind c n byte done (Some m ∷ slots) l h =
    let e : Entry = record { number = n; move = m } in
    let rest = replicate (length slots) None in
    let later : Result Contents Untaken = adding (with_slot (with_slots c (done ++ None ∷ rest)) n (Some m)) (byte + length (entry e)) (entries (n + 1) slots) in
    ap (λ (r : Result (Unit {0}) ℕ). unless_refused r byte later) (added_there c done rest n m l h.0)
    ∙ ap (λ (os : List (Option Move)). adding (with_slots c os) (byte + length (entry e)) (entries (n + 1) slots)) (set_at done None rest (Some m) n l ∙ sym (append_assoc done (Some m ∷ []) rest))
    ∙ added_behind c (n + 1) (byte + length (entry e)) (done ++ Some m ∷ []) slots (length_push done (Some m) ∙ ap (λ (k : ℕ). k + 1) l) h.1
    ∙ ap (λ (os : List (Option Move)). Ok (with_slots c os)) (append_assoc done (Some m ∷ []) slots)

pub taken_back : TakenBack
taken_back c h =
    let n = length c.slots in
    let o = opened c.settings c.names c.scene n in
    let byte = 12 + 11 * length c.settings in
    let moves = adding (with_masks o c.masks) byte (entries 0 c.slots) in
    let masked : Result Contents Untaken = unless_refused (wants o c.masks) 0 moves in
    ap (λ (r : Result (Unit {0}) ℕ). unless_refused r 0 masked) (passed (open_checks c.settings c.names c.scene n) tt h.lawful.opens)
    ∙ ap (λ (r : Result ℕ ℕ). unless_refused r 0 moves) (passed (want_checks c.settings c.masks) _ h.lawful.wants)
    ∙ added_behind c 0 byte [] c.slots refl (All-from_get_or (λ (s : Option Move). lawful_slot c.settings s ≡ true) c.slots None h.lawful.moves)
