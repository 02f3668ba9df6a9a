-- What a table keeps has at most one proof. Assumes nothing.
use Rattle.std.specs.Prelude.{ℕ, List, Option}
use mathlib.Core.Bool.{Bool-set}
use native.Mathlib.Nat.{ℕ_set}
use Rattle.table.specs.Tables.{Apart, Table}

pub apart_prop : {E : Type 0} (alike : E → E → Type 0) (slots : List (Option E)) → IsProp (Apart alike slots)
apart_prop alike slots p q = λ i a b x y al bl hx hy same. ℕ_set _ _ (p a b x y al bl hx hy same) (q a b x y al bl hx hy same) i

pub table_prop : {E : Type 0} (alike : E → E → Type 0) (initial : E → ℕ → ℕ) (slots : List (Option E)) → IsProp (Table alike initial slots)
table_prop alike initial slots p q = λ i. record {
  probed = λ k x kl here m ml near. Bool-set _ _ (p.probed k x kl here m ml near) (q.probed k x kl here m ml near) i;
  apart = apart_prop alike slots p.apart q.apart i;
}
