-- A run of performs grows by one more.
use Rattle.std.specs.Prelude.{◌≡◌, ℕ, ◌+◌, ◌<◌, List, [], ◌∷◌, ◌++◌, length, take, Ok, slice_index_or}
use Rattle.std.proofs.Common.{refl, sym, ap, subst, arith}
use Rattle.std.proofs.lemmas.List.{take_more}
use Rattle.model.specs.Contents.{Contents}
use Rattle.model.specs.Calls.{performs, performed}
use Rattle.theory.specs.Performing.{Performs}

one_more : (c : Contents) (is : List ℕ) (t : ℕ) (d : Contents) (i u : ℕ) → Performs c is t d → performs d i ≡ Ok u → Performs c (is ++ (i ∷ [])) (t + u) (performed d i)
one_more c [] t d i u (none, same) h =
    let sum : t + u ≡ u + 0 = omega arith in
    (u, subst (λ x. performs x i ≡ Ok u) same h, 0, (refl, ap (λ x. performed x i) same), sum)
one_more c (j ∷ js) t d i u (v, h', w, rest, e) h =
    let sum : t + u ≡ v + (w + u) = omega arith in
    (v, h', w + u, one_more (performed c j) js w d i u rest h, sum)

pub performed_more : (c d e : Contents) (run : List ℕ) (k t u : ℕ) → k < length run → Performs c (take k run) t d → performs d (slice_index_or run k 0) ≡ Ok u → e ≡ performed d (slice_index_or run k 0) → Performs c (take (k + 1) run) (t + u) e
performed_more c d e run k t u within done h after =
    subst (λ is. Performs c is (t + u) e) (sym (take_more run k 0 within))
    (subst (λ x. Performs c (take k run ++ (slice_index_or run k 0 ∷ [])) (t + u) x) (sym after) (one_more c (take k run) t d (slice_index_or run k 0) u done h))
