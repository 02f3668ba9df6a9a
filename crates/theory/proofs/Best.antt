-- The greedy walk is the best way. Assumes nothing.
use Rattle.std.proofs.Common.{subst}
use Rattle.model.specs.Masks.{wanted}
use Rattle.theory.specs.Tables.{table_of}
use Rattle.theory.specs.Ways.{WalksBest, NeverNone}
use Rattle.theory.proofs.Times.{AtMost, most}
use Rattle.theory.proofs.Greedy.{walk_right, before_told}
use Rattle.theory.proofs.Told.{contents_told}
use Rattle.theory.proofs.Tabling.{tables_lawful}
use Rattle.theory.proofs.Performing.{ways_are_runs}

pub walks_best : WalksBest
walks_best c law v right t e is greedy =
    let l = (contents_told c law).present in
    let walked = walk_right c.settings (table_of c.slots) (wanted c.masks) (tables_lawful c law) v right c.scene l t e is greedy in
    record {
      way = (ways_are_runs c is t).1 walked.0;
      least = λ js u w. subst (λ o. AtMost o u) e (most _ _ (right c.scene l) js u ((ways_are_runs c js u).0 w));
      first = λ js w. (before_told is js).0 (walked.1 js ((ways_are_runs c js t).0 w));
    }

pub never_none : NeverNone
never_none c law v right =
    let both = (right c.scene (contents_told c law).present).never in (
      λ e is t w. both.0 e is t ((ways_are_runs c is t).0 w),
      λ h. both.1 (λ is t run. h is t ((ways_are_runs c is t).1 run)),
    )
