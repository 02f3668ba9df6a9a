-- The best way of lawful contents, by the times that the rule leaves. Assumes nothing.
use Rattle.std.proofs.Common.{◌≡◌, ℕ, Some, None, replicate, refl}
use Rattle.model.specs.Limits.{peg_count}
use Rattle.model.specs.Scenes.{Scene}
use Rattle.model.specs.Charts.{Time, at}
use Rattle.model.specs.Masks.{wanted}
use Rattle.model.specs.Contents.{Contents}
use Rattle.model.specs.Calls.{Lawful}
use Rattle.theory.specs.Tables.{table_of}
use Rattle.theory.specs.Walks.{walk}
use Rattle.theory.specs.Ways.{Best, RightFor}
use Rattle.theory.proofs.Best.{walks_best, never_none}
use Rattle.theory.proofs.Greedy.{walk_found}
use Rattle.theory.proofs.Tabling.{tables_lawful}
use Rattle.theory.proofs.Told.{contents_told}
use Rattle.rule.specs.Rule.{chart_after, count}
use Rattle.rule.proofs.Whole.{rule_right}
use Rattle.planner.specs.Plans.{NoWay}

-- the times that the last round leaves
abbrev pub times : Contents → Scene → Time
times c = at c.settings (chart_after c (count c))

module _ (c : Contents) (law : Lawful c) where
  right : RightFor c (times c)
  right = (rule_right c law (replicate peg_count None) refl).right

  pub best_by : (t : ℕ) → times c c.scene ≡ Some t → Best c (walk (table_of c.slots) (times c) t c.scene) t
  best_by t e =
      walks_best c law (times c) right t e (walk (table_of c.slots) (times c) t c.scene)
      (walk_found c.settings (table_of c.slots) (wanted c.masks) (tables_lawful c law) (times c) right c.scene (contents_told c law).present t e)

  pub none_by : times c c.scene ≡ None → NoWay c
  none_by e = (never_none c law (times c) right).0 e
