-- What opening a diagram shelf answers. Assumes nothing.
use Rattle.std.proofs.Common.{◌≡◌, ℕ, Ok, Err, Result, IfOk, MatchResult, IsErrAnd, sym, ap, subst, ◌∙◌}
use Rattle.std.proofs.lemmas.Result.{err_from_is_err_and}
use Rattle.model.specs.Scenes.{Shape}
use Rattle.diagram.specs.declared.diagram_shelf.DiagramShelf.{DiagramShelf}
use Rattle.diagram.specs.declared.open_fault.OpenFault.{OpenFault}
use Rattle.diagram.specs.declared.open_fault.OpenFault.TheVariants.{NoMemory}
use Rattle.diagram.specs.Means.{means}
use Rattle.diagram.specs.Openings.{diagram_opens, diagram_opened, Opened}

pub opened_is : {E : Type 0} (ns : Shape) (slots : ℕ) (P : E → OpenFault → Type 0) → ((e : E) (f : OpenFault) → P e f → f ≡ NoMemory) → diagram_opens ns slots ≡ Ok tt → (r : Result DiagramShelf E) (q : Result DiagramShelf OpenFault) → IfOk r (λ s. means s ≡ diagram_opened ns slots) → MatchResult r (λ x. q ≡ Ok x) (λ e. IsErrAnd q (P e)) → Opened ns slots q
opened_is ns slots P told opens (Ok x) q h m = subst (Opened ns slots) (sym m) (opens, h)
opened_is ns slots P told opens (Err e) q h m =
    let p = err_from_is_err_and q m in
    subst (Opened ns slots) (sym (p.1 ∙ ap Err (told e p.0 p.2))) opens
