use Rattle.std.proofs.Common.{vec_len, sym, ap, ◌∙◌}
use Rattle.format.specs.Files.{Listing}
use Rattle.format.specs.Reading.{taken}
use Rattle.format.proofs.Whole.{one_reading}
use Rattle.rigfile.proofs.read.read.Goals as goal

pub returns-in-Some-clause-answer : goal.returns-in-Some-clause-answer
returns-in-Some-clause-answer c =
    let f = c.in-Some.ensures in
    record {
      listed =
          λ l shaped made.
          c.open.ensures.answer f.listing f.parts ∙ ap (λ (k : Listing). taken k (vec_len c.args.slots)) (one_reading f.listing l f.shaped shaped (sym f.made ∙ made));
      unframed = λ none. absurd (none (f.listing, f.shaped, f.made));
    }
