-- The table of actions that moves make. Assumes nothing.
use Rattle.std.proofs.Common.{◌≡◌, ℕ, zero, suc, ◌+◌, ◌≤◌, Bool, true, false, cond, List, [], ◌∷◌, get_or, set, Some, None, Option, refl, subst, arith}
use Rattle.std.specs.List.{AllByRecursion}
use Rattle.model.specs.Lists.{total}
use Rattle.model.specs.Scenes.{Shape, Scene, SceneOf}
use Rattle.model.specs.Moves.{Pair, Surcharge, Move, all_hold, charged, applied}
use Rattle.model.specs.Calls.{extra}
use Rattle.model.proofs.Ranks.{set_scene}
use Rattle.theory.specs.Actions.{Action, numbered, LawfulAction}
use Rattle.theory.specs.Wellformed.{Within, LawfulMove}
use Rattle.theory.specs.Tables.{action_of, action_in, table_of, MovesLawful, TablesLawful}
use Rattle.theory.proofs.Told.{contents_told}

pub table_numbered : (ms : List (Option Move)) (i : ℕ) → numbered (table_of ms) i ≡ action_in (get_or ms i None)
table_numbered [] i = refl
table_numbered (m ∷ ms) zero = refl
table_numbered (m ∷ ms) (suc i) = table_numbered ms i

pub applied_scene : (ns : Shape) (ps : List Pair) (s : Scene) → AllByRecursion (Within ns) ps → SceneOf ns s → SceneOf ns (applied ps s)
applied_scene ns [] s h l = l
applied_scene ns (p ∷ ps) s h l =
    applied_scene ns ps (set s p.device p.setting) h.1 (set_scene ns s p.device p.setting l h.0.0 h.0.1)

-- surcharges take at most all their extras
pub charged_most : (xs : List Surcharge) (s : Scene) → total (charged s) xs ≤ total extra xs
charged_most [] s = omega arith
charged_most (x ∷ xs) s = go (all_hold s x.tests) (charged_most xs s)
  where
    go : (b : Bool) → total (charged s) xs ≤ total extra xs → cond b x.extra 0 + total (charged s) xs ≤ x.extra + total extra xs
    go true h = omega arith
    go false h = omega arith

pub lawful_action : (ns : Shape) (m : Move) → LawfulMove ns m → LawfulAction ns (action_of m)
lawful_action ns m h = record {
  keeps = λ s l e. applied_scene ns m.effects s h.effected.within l;
  some = λ s l. omega (arith, h.some);
  most = λ s l. omega (arith, h.most, charged_most m.surcharges s);
}

some_action : (a b : Action) → Some a ≡ Some b → a ≡ b
some_action a b e = cc

none_some : (a : Action) → None ≡ Some a → ⊥
none_some a e = let z : ◌≡◌ {A = ℕ} 0 1 = cc in absurd (omega arith)

pub moves_lawful : MovesLawful
moves_lawful ns [] law i a e = absurd (none_some a e)
moves_lawful ns (None ∷ ms) law zero a e = absurd (none_some a e)
moves_lawful ns (Some m ∷ ms) law zero a e = subst (LawfulAction ns) (some_action _ _ e) (lawful_action ns m law.0)
moves_lawful ns (None ∷ ms) law (suc i) a e = moves_lawful ns ms law.1 i a e
moves_lawful ns (Some m ∷ ms) law (suc i) a e = moves_lawful ns ms law.1 i a e

pub tables_lawful : TablesLawful
tables_lawful c h = moves_lawful c.settings c.slots (contents_told c h).each_slot
